-- Laws that belong to no one function.
pub mod Signed
pub mod Tests
