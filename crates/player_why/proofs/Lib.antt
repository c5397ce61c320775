-- Laws that belong to no one function.
pub mod LentRows
pub mod OwnedCorners
pub mod WhyTests
