pub mod Richest
pub mod Leading
