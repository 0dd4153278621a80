pub mod Writable
pub mod Laws
pub mod Examples
