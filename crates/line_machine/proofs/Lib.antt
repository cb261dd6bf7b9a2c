pub mod Counting
pub mod Listing
pub mod Parts
pub mod Passing
pub mod Programs
pub mod ReadingLaws
pub mod Sound
pub mod Unique
