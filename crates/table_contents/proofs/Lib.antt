-- Laws that belong to no one function.
pub mod Examples
pub mod Places
pub mod Numbers
pub mod Names
