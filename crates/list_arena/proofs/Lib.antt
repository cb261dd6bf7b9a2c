pub mod FoundLaws
pub mod ListLaws
pub mod PairLaws
pub mod RowLaws
pub mod WordLaws
