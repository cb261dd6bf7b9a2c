pub mod Columns
pub mod Faults
pub mod Forms
pub mod Signs
pub mod Values
pub mod Wholes
pub mod Written
pub mod inside
