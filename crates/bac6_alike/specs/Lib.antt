pub mod Renamed
pub mod Internal
