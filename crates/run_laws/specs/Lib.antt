pub mod Form
pub mod Runs
pub mod Offers
