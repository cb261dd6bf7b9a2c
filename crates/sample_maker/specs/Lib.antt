pub mod Draws
pub mod Drawn
pub mod Numbered
pub mod Places
pub mod Generated
pub mod inside
