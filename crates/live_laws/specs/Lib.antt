pub mod Effects
pub mod Exact
pub mod Touch
pub mod Places
pub mod Acts
