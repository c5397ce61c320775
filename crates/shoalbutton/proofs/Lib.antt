-- The demands, the requests, and the marked cases.
pub mod Demands
pub mod Requests
pub mod Marked
