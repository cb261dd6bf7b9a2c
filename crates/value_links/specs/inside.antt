-- What inner functions and proofs need, and no public clause says.
pub mod Checks
pub mod Links
pub mod ListExpressions
pub mod ListPlaces
pub mod NamedLists
pub mod Namings
pub mod Owners
pub mod Passes
pub mod Tabled
pub mod Values
pub mod Views
pub mod World
