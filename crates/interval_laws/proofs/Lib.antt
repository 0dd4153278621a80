pub mod Stretch
pub mod Pieces
pub mod Cells
pub mod Written
pub mod Live
pub mod Law
