-- What inner functions and proofs need, and no public clause says.
pub mod Check
pub mod Ending
pub mod Run
pub mod Said
pub mod Words
pub mod Summary
