pub mod Answers
pub mod Deciding
pub mod Faces
pub mod Fractions
pub mod InOrder
pub mod Lookups
pub mod Reasons
pub mod Samples
