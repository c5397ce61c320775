-- Laws that belong to no one function.
pub mod Before
pub mod Folds
pub mod Into
pub mod Widths
