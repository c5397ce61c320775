-- Laws that belong to no one function.
pub mod MovementEnds
pub mod Rooms
pub mod Standing
