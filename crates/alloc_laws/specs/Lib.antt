pub mod Clashes
pub mod Offers
pub mod Views
