pub mod Kinds
pub mod Internal
