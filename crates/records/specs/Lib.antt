pub mod Faults
pub mod Packed
pub mod PlanFile
pub mod Trace
