pub mod Index
pub mod References
