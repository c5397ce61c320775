-- Laws that belong to no one function.
pub mod Appending
pub mod Examples
pub mod Numerals
