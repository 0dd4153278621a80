pub mod Free
pub mod Facts
pub mod Choice
pub mod Kept
