pub mod Runs
pub mod Internal
