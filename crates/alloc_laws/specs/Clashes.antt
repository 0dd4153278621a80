pub mod Holds
pub mod Facts
pub mod Kept
