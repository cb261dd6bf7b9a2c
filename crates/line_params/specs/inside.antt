-- What inner functions and proofs need, and no public clause says.
pub mod Appended
pub mod Joined
pub mod Numbers
pub mod PairSearch
