-- Laws that belong to no one function.
pub mod Founds
pub mod Indices
pub mod Mosts
