pub mod Aranges
pub mod Faults
pub mod Laws
