-- Laws that belong to no one function.
pub mod Placing
pub mod Walks
pub mod Whole
