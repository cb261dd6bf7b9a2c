pub mod Tidy
pub mod Whole
pub mod Laws
pub mod inside
