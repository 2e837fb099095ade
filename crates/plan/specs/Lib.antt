pub mod Terms
pub mod Faults
pub mod Plan
