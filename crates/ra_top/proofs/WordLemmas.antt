pub mod Walk
pub mod Parse
pub mod Digits
