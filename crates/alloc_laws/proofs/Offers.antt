pub mod Places
pub mod Ways
pub mod Begun
pub mod Turns
pub mod Pieces
