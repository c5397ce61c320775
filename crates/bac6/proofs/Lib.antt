-- Laws that belong to no one function.
pub mod Limits
pub mod Settings
pub mod Numbers
pub mod Figures
pub mod Shapes
