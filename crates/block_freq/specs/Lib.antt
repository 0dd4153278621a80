pub mod Frequencies
pub mod Weights
