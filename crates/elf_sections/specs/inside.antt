-- What inner functions and proofs need, and no public clause says.
pub mod Elf
pub mod Faults
pub mod Names
pub mod Sections
pub mod Sums
