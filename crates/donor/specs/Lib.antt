pub mod Rules
pub mod Tally
pub mod Allowance
pub mod Counts
pub mod Above
