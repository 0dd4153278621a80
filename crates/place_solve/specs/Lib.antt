pub mod Positions
pub mod Choice
pub mod Told
pub mod Copies
pub mod Laws
pub mod Once
pub mod Own
pub mod Tinies
