pub mod Decoded
pub mod Holds
pub mod Kinds
pub mod Remembers
pub mod Running
pub mod Seeds
pub mod Stands
