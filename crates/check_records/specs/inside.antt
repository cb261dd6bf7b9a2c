-- What inner functions and proofs need, and no public clause says.
pub mod Parts
pub mod Judged
pub mod Pushed
pub mod Bare
