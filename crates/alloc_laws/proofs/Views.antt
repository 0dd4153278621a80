pub mod Live
pub mod Bundled
pub mod Others
