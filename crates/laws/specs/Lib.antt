pub mod Preorder
pub mod Monotone
pub mod Tables
pub mod Constants
