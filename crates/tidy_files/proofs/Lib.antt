mod FileOffsets
mod FirstPlaces
mod TreeEnds
mod PaddedUnits
mod OtherPrograms
mod OtherBytes
mod LineAmiss
pub mod SameEntries
mod ChangedLists
mod TidyRows
mod KeptLists
mod WrittenFiles
mod Searches
mod WholeTables
mod WholeEntries
mod WholeLists
mod WholeFiles
