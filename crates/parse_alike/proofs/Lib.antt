-- Laws that belong to no one function.
pub mod Tokens
pub mod Readers
pub mod Fields
pub mod Texts
pub mod Names
