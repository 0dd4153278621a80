pub mod Joining
pub mod Splitting
pub mod Held
pub mod Bundles
pub mod Offering
pub mod Running
