pub mod Followers
pub mod Due
pub mod Rows
pub mod Laws
pub mod inside
