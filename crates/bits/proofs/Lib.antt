pub mod Fields
pub mod Bytes
pub mod Written
