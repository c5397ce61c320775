-- Laws that belong to no one function.
pub mod Closings
pub mod Chunks
pub mod Rows
