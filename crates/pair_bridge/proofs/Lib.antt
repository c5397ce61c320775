-- Laws that belong to no one function.
pub mod Lookups
pub mod Names
pub mod Labels
