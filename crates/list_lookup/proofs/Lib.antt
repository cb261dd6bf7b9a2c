pub mod AddressTables
pub mod GrownLists
pub mod OwnedLists
pub mod UnitCounts
