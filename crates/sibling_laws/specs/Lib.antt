pub mod Siblings
pub mod Splits
pub mod Spills
pub mod Steps
