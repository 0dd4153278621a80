pub mod Run
pub mod Intervals
pub mod Summary
