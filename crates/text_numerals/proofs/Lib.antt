-- Laws that belong to no one function.
pub mod Exponents
pub mod Numerals
pub mod Raised
pub mod Reading
pub mod Words
