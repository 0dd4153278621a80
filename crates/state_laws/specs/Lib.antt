pub mod Clear
pub mod Passes
