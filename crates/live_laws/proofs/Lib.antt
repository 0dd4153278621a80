pub mod Effects
pub mod Exact
pub mod Touch
pub mod Places
pub mod Few
pub mod Acts
