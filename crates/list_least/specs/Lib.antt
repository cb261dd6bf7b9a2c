pub mod Laws
pub mod Maps
pub mod Plans
pub mod Shortest
pub mod Tails
pub mod inside
