pub mod Faults
pub mod FirstBad
pub mod Outcomes
pub mod Rules
pub mod Internal
