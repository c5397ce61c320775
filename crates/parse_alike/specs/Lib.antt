pub mod Moving
pub mod Internal
