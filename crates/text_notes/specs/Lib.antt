pub mod Notes
pub mod SameWord
pub mod Internal
