pub mod Clashes
pub mod Lines
pub mod Colouring
pub mod Kept
