pub mod Maps
pub mod Owned
