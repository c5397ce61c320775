pub mod Names
pub mod Internal
