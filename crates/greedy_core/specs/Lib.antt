pub mod BasicStep
pub mod Bounds
pub mod Ledgers
pub mod State
pub mod Step
