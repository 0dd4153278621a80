pub mod Reached
pub mod States
pub mod Refining
pub mod Ends
pub mod Moved
