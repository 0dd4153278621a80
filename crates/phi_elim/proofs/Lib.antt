pub mod Walks
pub mod Arriving
pub mod Placing
pub mod Numbering
pub mod Bulks
pub mod Sizes
