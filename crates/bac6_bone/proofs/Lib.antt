-- Laws that belong to no one function.
pub mod Fields
pub mod Turns
pub mod Values
