-- Laws that belong to no one function.
pub mod Parses
pub mod Bones
pub mod Settings
pub mod Ends
