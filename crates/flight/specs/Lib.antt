pub mod Faults
pub mod Flight
pub mod Sizes
pub mod Page
pub mod Listing
