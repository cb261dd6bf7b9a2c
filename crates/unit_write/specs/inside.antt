-- What inner functions and proofs need, and no public clause says.
pub mod Most
pub mod Puts
pub mod Readings
pub mod Expressions
pub mod Marks
