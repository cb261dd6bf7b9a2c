-- What proofs need, and no public clause says.
pub mod Counterparts
pub mod FewestBytes
pub mod Standing
pub mod Laws
