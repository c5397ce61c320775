-- Laws that belong to no one function.
pub mod Outcomes
pub mod Labels
pub mod Figures
pub mod Movements
pub mod Loading
