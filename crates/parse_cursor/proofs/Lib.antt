-- Laws that belong to no one function.
pub mod Behind
pub mod Bounds
pub mod Branches
pub mod Counts
pub mod Forms
pub mod NumberSteps
pub mod Steps
