pub mod Faults
pub mod Calls
pub mod State
pub mod Run
pub mod Shares
