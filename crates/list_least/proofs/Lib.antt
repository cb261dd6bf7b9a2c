pub mod Bound
pub mod Nearer
pub mod Behind
pub mod Back
pub mod Bases
pub mod Free
pub mod Filling
pub mod Indexes
pub mod Picking
pub mod Ways
pub mod Pieces
pub mod Pushing
pub mod Reach
pub mod Records
pub mod Shortest
mod Maps
mod Near
mod Tails
pub mod Covering
