pub mod Firsts
pub mod Misplaced
pub mod Laws
pub mod inside
