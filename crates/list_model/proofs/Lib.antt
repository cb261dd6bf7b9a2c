pub mod AllTables
pub mod EntryLaws
pub mod EntryReads
pub mod Found
pub mod Tiling
pub mod WalkLaws
pub mod WalkSteps
pub mod Walking
