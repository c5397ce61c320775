-- Laws that belong to no one function.
pub mod Steps
pub mod Rows
pub mod Figures
