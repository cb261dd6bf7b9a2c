pub mod Tiling
pub mod Patching
