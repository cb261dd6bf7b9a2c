-- What inner functions and proofs need, and no public clause says.
pub mod Bytes
pub mod Files
pub mod Small
pub mod Drawing
pub mod Listed
pub mod Images
pub mod Sections
pub mod ReadLines
pub mod ReadLists
pub mod ReadUnits
pub mod ReadImage
pub mod ReadFile
pub mod NamedLists
