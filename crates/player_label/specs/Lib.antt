pub mod BoneNames
pub mod Labels
pub mod Internal
