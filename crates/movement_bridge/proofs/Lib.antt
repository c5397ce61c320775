-- Sample from a movement's text.
pub mod Laid
pub mod Taken
pub mod Channels
pub mod Faultless
pub mod Tables
pub mod Sampling
pub mod Names
