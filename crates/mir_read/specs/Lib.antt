pub mod Names
pub mod Ranges
pub mod Reading
pub mod Resolving
pub mod Keys
pub mod Body
