pub mod Like
pub mod Live
pub mod Prepared
