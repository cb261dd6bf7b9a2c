pub mod Class
pub mod Cursors
pub mod Faults
pub mod Heads
pub mod Laws
pub mod Opcodes
pub mod Rows
pub mod inside
