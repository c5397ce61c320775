-- Laws that belong to no one function.
pub mod Through
pub mod FigureLists
pub mod NameNumbers
pub mod FigureNumbers
pub mod FigureContents
pub mod MovementLists
pub mod MovementNumbers
pub mod MovementContents
pub mod Tables
pub mod FigureLookups
pub mod MovementLookups
