pub mod Intervals
pub mod Summary
