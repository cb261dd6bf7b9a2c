pub mod Formulas
pub mod Laws
pub mod Ways
pub mod inside
