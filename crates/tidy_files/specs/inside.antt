-- What inner functions and proofs need, and no public clause says.
pub mod Paddings
