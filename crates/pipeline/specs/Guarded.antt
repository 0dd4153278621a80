pub mod Limits
pub mod Stops
pub mod Function
pub mod Told
