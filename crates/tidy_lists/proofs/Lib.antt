mod AddedPairs
mod OffsetLinks
mod FewNumbers
mod HeldNumbers
mod HeldValues
mod SlotLists
mod ToldNumbers
mod SameValues
pub mod Followed
mod LooseSpans
mod LooseLengths
mod NumbersUpTo
mod EntriesUpTo
mod ListsUpTo
mod RunsUpTo
pub mod FilterLaws
mod PieceLaws
pub mod OneLength
pub mod OldOrder
mod DueLaws
mod DueSteps
mod HeldThings
mod DueWorlds
mod FirstLaws
mod LeastLaws
mod DisplacedLaws
mod StandingLaws
mod ElsewhereLaws
mod SectionSizes
mod PairWorlds
mod RowLaws
mod LooseParts
pub mod NumberedFilters
mod WrittenRuns
mod WrittenNumbers
mod WrittenPieces
mod WrittenBytes
mod WrittenDue
mod WrittenLoose
pub mod WrittenInPlace
pub mod LengthsThere
pub mod BothWays
mod PiecesBefore
pub mod PlacesKept
pub mod PlacesOrdered
mod FirstLocations
mod AlikeLocations
pub mod RunLists
