pub mod Fronts
pub mod LongTables
pub mod LongUnits
pub mod LongOperations
pub mod LongLists
pub mod LongNumbers
pub mod Laws
pub mod inside
