pub mod AimNumbers
pub mod AmongParts
pub mod KeptParts
pub mod LeastLayouts
pub mod LeastLines
pub mod LeastLists
pub mod Reasons
