-- Laws that belong to no one function.
pub mod Claims
pub mod Owners
