pub mod Tokens
pub mod Internal
