-- Laws that belong to no one function.
pub mod Gathered
pub mod Keeping
pub mod Ranges
