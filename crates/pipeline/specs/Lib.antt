pub mod Passes
pub mod Guarded
