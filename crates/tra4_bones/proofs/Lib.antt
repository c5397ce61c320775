-- Laws that belong to no one function.
pub mod Repeats
pub mod Lists
