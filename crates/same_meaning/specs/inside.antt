-- What inner functions and proofs need, and no public clause says.
pub mod Compared
pub mod Expressions
pub mod Headers
pub mod Lists
pub mod Parts
pub mod Programs
pub mod Values
