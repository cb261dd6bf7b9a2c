pub mod Ends
pub mod Files
pub mod Gathering
pub mod Puts
pub mod Spellings
pub mod Stretches
