-- Laws that belong to no one function.
pub mod Laid
pub mod Counts
pub mod Orders
