pub mod Plans
pub mod Playing
pub mod Flights
