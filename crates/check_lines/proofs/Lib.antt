pub mod Least
pub mod Looking
pub mod Pairing
pub mod Spreading
pub mod Verdict
