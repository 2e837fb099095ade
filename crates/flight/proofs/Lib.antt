pub mod Flying
pub mod Recording
pub mod Fitting
