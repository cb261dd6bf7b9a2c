pub mod Between
pub mod EndLaws
pub mod Found
pub mod FrontLaws
pub mod Held
pub mod HeldValues
pub mod PreorderLaws
mod Rows
pub mod RunLaws
pub mod Spans
pub mod SpellingLaws
pub mod StepLaws
pub mod TreeLaws
pub mod WalkLaws
pub mod WalkPlaces
mod WorkedTree
pub mod StandingLaws
pub mod GrowingLaws
pub mod OnwardLaws
pub mod OperationLaws
