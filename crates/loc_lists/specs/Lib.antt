pub mod Apart
pub mod Laws
pub mod Locations
pub mod Views
pub mod inside
