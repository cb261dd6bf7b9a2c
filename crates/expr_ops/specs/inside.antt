-- What inner functions and proofs need, and no public clause says.
pub mod Levels
pub mod Reads
pub mod Cursors
pub mod Leads
