pub mod Bytes
pub mod Internal
