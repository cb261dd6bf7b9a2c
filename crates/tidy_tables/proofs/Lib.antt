pub mod TableNamers
pub mod UnitsOfTables
pub mod ColumnEntries
pub mod LeastColumns
pub mod ColumnMeanings
pub mod DeclarationPlaces
pub mod DeclarationsOfWorlds
mod TableBytes
mod MarkedNumbers
mod SameUnits
mod TableNumbers
mod PairLaws
mod EntryPairs
mod SectionOffsets
mod PlacesInside
mod UntidyRows
mod UseLaws
mod Countable
mod LeastPlaces
mod WrittenLaws
mod TablePlaces
mod CodeLaws
mod SortedOnce
mod OutlineLaws
mod TableReadings
mod UntidyTables
mod LeastNumberings
mod TidyTables
pub mod WrittenColumnKinds
pub mod WrittenColumnMeanings
pub mod WrittenColumnTargets
pub mod WrittenColumnValues
pub mod WrittenColumns
mod WrittenLists
mod WrittenNumbers
mod WrittenLeast
mod WrittenPlaces
mod WrittenCodes
mod WrittenDeclarations
mod WrittenUses
mod WrittenRows
