pub mod Columns
pub mod Rows
pub mod TableColumns
pub mod Tallies
pub mod inside
