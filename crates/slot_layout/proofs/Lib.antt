pub mod GrowLaws
pub mod Layouts
pub mod RankLaws
pub mod RoundLaws
pub mod SizeLaws
pub mod SumLaws
