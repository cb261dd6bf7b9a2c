-- What inner functions and proofs need, and no public clause says.
pub mod Compared
pub mod Pairs
pub mod NamedNumbers
pub mod LooseBytes
pub mod Lengths
pub mod DuePlaces
pub mod LeastPlaces
