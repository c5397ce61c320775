-- Laws that belong to no one function.
pub mod Examples
pub mod Greatest
pub mod OnlyIf
pub mod Reasons
pub mod WhyShown
