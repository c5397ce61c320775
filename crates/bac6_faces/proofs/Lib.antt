-- Laws that belong to no one function.
pub mod FaceLists
pub mod Groups
pub mod PolygonSteps
pub mod Rows
