-- Laws that belong to no one function.
pub mod Fractions
pub mod Signed
