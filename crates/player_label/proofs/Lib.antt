-- Laws of labels.
pub mod Chosen
pub mod Examples
