-- Laws that belong to no one function.
pub mod Examples
pub mod Names
pub mod Parents
pub mod Rows
pub mod Whole
