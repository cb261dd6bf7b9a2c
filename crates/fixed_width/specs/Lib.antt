pub mod InitialLengths
pub mod Numbers
