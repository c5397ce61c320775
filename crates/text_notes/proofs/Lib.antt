-- Laws that belong to no one function.
pub mod Examples
pub mod Annotated
pub mod Apart
pub mod Gapped
pub mod GapFaults
pub mod Classes
pub mod Gaps
pub mod Moves
pub mod Cutting
pub mod Inserted
pub mod WordEnds
pub mod Sounds
