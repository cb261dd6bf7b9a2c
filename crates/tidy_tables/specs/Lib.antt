pub mod Untidy
pub mod Rows
pub mod Laws
pub mod inside
