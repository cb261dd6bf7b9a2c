pub mod ItemLaws
pub mod LocationLaws
pub mod LocationReads
pub mod LocationWalks
pub mod Spans
pub mod ViewLaws
pub mod ViewReads
