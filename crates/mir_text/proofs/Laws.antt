pub mod Types
pub mod Given
pub mod Looked
pub mod Keyed
pub mod Lines
pub mod Spelled
