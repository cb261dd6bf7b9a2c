-- What inner functions and proofs need, and no public clause says.
pub mod Held
pub mod NumberWalks
pub mod LongEntries
pub mod Operands
pub mod Expressions
pub mod ListEntries
pub mod Written
