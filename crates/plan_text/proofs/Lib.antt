pub mod Numbers
pub mod Fronts
pub mod Splitting
pub mod Lines
pub mod Tables
pub mod Columns
