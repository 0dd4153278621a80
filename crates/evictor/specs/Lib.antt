pub mod Best
pub mod Candidates
pub mod Cheapest
pub mod Hints
pub mod Settings
pub mod Spots
