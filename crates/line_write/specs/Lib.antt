pub mod Faults
pub mod Laws
pub mod Least
pub mod Meaning
pub mod Programs
pub mod Readings
pub mod Records
pub mod inside
