-- Laws that belong to no one function.
pub mod LineRows
pub mod Lines
pub mod Passed
