-- Laws that belong to no one function.
pub mod Repeated
pub mod Whole
pub mod Names
pub mod Patterns
pub mod LeftOut
pub mod Layouts
pub mod Claims
pub mod Zero
