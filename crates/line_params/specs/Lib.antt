pub mod Laws
pub mod Order
pub mod Pairs
pub mod Shortest
pub mod inside
