pub mod Tests
pub mod Picked
pub mod Sound
pub mod Lookups
