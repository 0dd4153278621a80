pub mod Renamed
pub mod Joins
pub mod Splits
pub mod Asked
pub mod Runs
pub mod Offers
