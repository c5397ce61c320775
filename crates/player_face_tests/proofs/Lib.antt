-- Laws that belong to no one function.
pub mod Corners
pub mod Owners
