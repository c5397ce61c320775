-- Corner and Shown from a figure's text and a movement's.
pub mod Sound
pub mod Tests
pub mod Parts
pub mod Names
pub mod Grouped
pub mod FaceRows
pub mod Corners
pub mod Showing
pub mod Texts
