-- Laws that belong to no one function.
pub mod BoneFields
pub mod Shape
