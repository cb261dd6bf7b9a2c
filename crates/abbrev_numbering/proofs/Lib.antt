pub mod Climbs
pub mod Numberings
pub mod Orders
pub mod Sizes
