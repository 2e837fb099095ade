pub mod Clock
pub mod Row
pub mod Turn
pub mod Tick
pub mod Demand
pub mod Table
pub mod Gathered
pub mod Marks
