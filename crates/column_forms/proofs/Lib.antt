pub mod Sums
pub mod ClassCodes
pub mod TallyLaws
pub mod Best
pub mod RowLaws
pub mod TableLaws
