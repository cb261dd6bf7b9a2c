-- What inner functions and proofs need, and no public clause says.
pub mod Compared
pub mod ColumnValues
pub mod TableNamers
pub mod UntidyDeclarations
pub mod Namers
pub mod Pairings
pub mod UseCounts
pub mod Marked
pub mod WrittenTables
pub mod Codes
pub mod Outlines
pub mod Written
pub mod Renewed
