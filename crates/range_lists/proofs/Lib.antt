pub mod RangeLaws
pub mod RangeReads
pub mod RangeWalks
