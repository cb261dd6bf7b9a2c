pub mod BareUnits
pub mod HeldUnits
pub mod WritableUnits
