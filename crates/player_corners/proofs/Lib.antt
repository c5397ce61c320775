-- Laws that belong to no one function.
pub mod CornerTests
pub mod FaceRows
pub mod Places
