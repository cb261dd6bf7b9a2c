pub mod Numbers
pub mod FewLists
pub mod PartLists
pub mod Standing
pub mod StrayLaws
pub mod Verdicts
pub mod SaidOnce
pub mod RefusedLaws
pub mod OwnedRead
pub mod ProgramRecords
pub mod BareSizes
pub mod BareBytes
pub mod HeldItems
pub mod JudgedLists
mod WrittenRecords
