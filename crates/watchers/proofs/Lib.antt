pub mod RegisterCounts
pub mod Told
pub mod Runs
