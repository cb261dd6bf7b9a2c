-- What inner functions and proofs need, and no public clause says.
pub mod Places
pub mod RunningSums
pub mod Ways
pub mod Windows
