pub mod Seats
pub mod Parts
pub mod Steps
pub mod Sizes
