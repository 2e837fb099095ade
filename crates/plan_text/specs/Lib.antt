pub mod Faults
pub mod Bytes
pub mod Words
pub mod Kinds
pub mod Numbers
pub mod Reading
pub mod Table
