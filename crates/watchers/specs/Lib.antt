pub mod Lines
pub mod Counts
pub mod RegisterCounts
pub mod Told
