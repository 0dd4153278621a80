pub mod Steps
pub mod Frames
pub mod Runs
pub mod Starts
pub mod LoweredStarts
pub mod Listed
