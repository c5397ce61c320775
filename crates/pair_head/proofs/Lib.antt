-- Laws that belong to no one function.
pub mod Divisions
pub mod Heads
