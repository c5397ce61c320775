-- Laws that belong to no one function.
pub mod Binds
pub mod Choices
pub mod FieldFits
pub mod FieldFlags
pub mod FieldKeeps
pub mod Given
pub mod Many
pub mod Names
pub mod NumberTokens
pub mod Ranges
pub mod Sequences
pub mod TokenCounts
pub mod Within
