pub mod Classes
pub mod Ties
pub mod Sequences
pub mod Lowered
