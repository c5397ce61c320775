pub mod Fields
pub mod Places
pub mod Readers
pub mod Internal
