pub mod Elf
pub mod Faults
pub mod Headers
pub mod Names
pub mod Numbers
pub mod Sections
pub mod inside
