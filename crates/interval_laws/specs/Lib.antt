pub mod Segments
pub mod Told
pub mod Laws
