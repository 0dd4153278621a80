pub mod Allocators
pub mod Ready
