-- Laws that belong to no one function.
pub mod Counts
pub mod Holding
pub mod Reading
pub mod Turns
