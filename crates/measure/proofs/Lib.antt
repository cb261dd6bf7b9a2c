mod Declared
mod Drawn
pub mod PairRows
