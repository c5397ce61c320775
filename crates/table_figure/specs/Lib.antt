pub mod Sections
pub mod Internal
