-- Laws that belong to no one function.
pub mod ListsInto
pub mod RowCounts
