pub mod Differences
pub mod Kept
pub mod Laws
pub mod inside
