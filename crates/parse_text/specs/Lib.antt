pub mod Texts
pub mod Internal
