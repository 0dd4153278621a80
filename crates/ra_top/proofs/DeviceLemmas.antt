pub mod Written
pub mod Front
pub mod Calls
pub mod Mapped
pub mod Steps
pub mod Chunks
