pub mod Moves
pub mod Counting
pub mod Runs
pub mod Granted
pub mod Entries
pub mod Law
pub mod Charging
