pub mod Summaries
pub mod Fitting
pub mod Refused
