pub mod Moving
pub mod Shaped
pub mod Coded
pub mod Laws
