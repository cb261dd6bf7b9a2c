mod FrontReads
mod WalkedPlaces
mod WalkedBehind
mod WalkedNumbers
mod WalkedRows
mod ColumnWalks
mod DeclarationWalks
mod TableWalks
mod PairWalks
mod ViewWalks
pub mod EarlierPlaces
pub mod EntryNumbers
pub mod UnitNumbers
pub mod HeldEntries
pub mod PlacesWithin
pub mod FileNumbers
mod FoundAmong
mod OperandPlaces
mod ExpressionPlaces
mod HeldExpressions
mod ThingEnds
mod ListEntryPlaces
mod ListPlaces
mod ListEntriesStand
mod ShortFronts
mod ShortThings
mod WrittenEntries
mod WrittenTables
mod WrittenLengths
mod WrittenViews
pub mod WrittenExpressions
pub mod ShorterEntries
pub mod ShorterLists
pub mod WrittenOperands
pub mod Written
