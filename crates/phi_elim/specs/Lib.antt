pub mod Moves
pub mod Numbered
pub mod Bulk
pub mod Phis
