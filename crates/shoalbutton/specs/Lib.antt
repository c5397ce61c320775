pub mod Demands
pub mod Requests
pub mod Marked
