-- What inner functions and proofs need, and no public clause says.
pub mod Lookups
pub mod Search
pub mod Ways
