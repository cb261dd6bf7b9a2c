pub mod Bodies
pub mod Layout
pub mod Same
pub mod inside
