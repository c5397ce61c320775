-- Laws that belong to no one function.
pub mod Casts
pub mod Corners
pub mod FirstBad
pub mod Lookups
pub mod Parts
pub mod Rows
pub mod SmallIndices
