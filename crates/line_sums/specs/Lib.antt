pub mod Accepted
pub mod Counting
pub mod Laws
pub mod Ordered
pub mod Steps
pub mod Sums
pub mod inside
