pub mod Choosing
pub mod Staged
