-- Laws that belong to no one function.
pub mod Lexing
pub mod Spans
