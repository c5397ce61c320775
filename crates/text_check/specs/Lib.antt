pub mod Faults
pub mod Internal
