pub mod Fetched
pub mod Taken
pub mod Rows
pub mod OneFile
pub mod RoundTrip
pub mod RowPut
pub mod FilePut
