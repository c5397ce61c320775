-- Laws that belong to no one function.
pub mod Asked
pub mod Passes
pub mod Sizes
pub mod Stepping
pub mod Terms
pub mod Walked
