-- Laws that belong to no one function.
pub mod Among
pub mod Texts
pub mod Rules
pub mod Refusals
pub mod Answers
