pub mod Sample
pub mod Functions
pub mod Runs
pub mod Liveness
pub mod Validity
pub mod Choices
