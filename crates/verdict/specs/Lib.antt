pub mod Accepts
pub mod Laws
