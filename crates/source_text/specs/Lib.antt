pub mod Instructions
pub mod Blocks
pub mod Frames
pub mod Keys
pub mod Slots
pub mod Stored
pub mod Keeps
pub mod Laws
