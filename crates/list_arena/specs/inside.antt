-- What inner functions and proofs need, and no public clause says.
pub mod Words
pub mod Rows
pub mod Lists
pub mod Views
