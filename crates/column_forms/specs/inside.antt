-- What inner functions and proofs need, and no public clause says.
pub mod Choices
pub mod TableColumns
pub mod Tallies
