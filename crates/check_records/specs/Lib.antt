pub mod Parts
pub mod Strays
pub mod Accepted
pub mod Laws
pub mod inside
