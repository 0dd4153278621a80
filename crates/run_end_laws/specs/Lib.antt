pub mod Allocating
pub mod States
pub mod Ends
