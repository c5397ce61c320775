-- Theorems on exact samples, on the steps that they take, and on the order of pattern lines.
pub mod Samples
pub mod Between
pub mod Keys
pub mod LeftOut
pub mod Exchanged
pub mod Steps
