pub mod Quiet
pub mod Joined
pub mod Laws
