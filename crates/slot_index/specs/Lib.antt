pub mod Order
pub mod Indexed
pub mod Renewed
