-- Laws that belong to no one function.
pub mod Heads
pub mod Stored
pub mod Turns
