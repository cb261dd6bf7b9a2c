pub mod Lebs
pub mod Puts
pub mod Signs
pub mod Lens
pub mod Fronts
pub mod SpellingLaws
