pub mod Answers
pub mod Division
