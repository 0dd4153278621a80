pub mod EdgeSteps
pub mod Rounds
pub mod Sums
