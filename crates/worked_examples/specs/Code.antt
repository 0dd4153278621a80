pub mod Samples
pub mod Runs
pub mod Refuted
pub mod Codes
pub mod Premises
pub mod Liveness
pub mod Operations
