-- What inner functions and proofs need, and no public clause says.
pub mod Added
pub mod Own
pub mod Rows
pub mod Made
