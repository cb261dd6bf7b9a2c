-- What inner functions and proofs need, and no public clause says.
pub mod Checks
pub mod Dealing
pub mod Growing
pub mod Sums
