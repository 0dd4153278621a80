pub mod Pieces
pub mod Covered
pub mod Overlap
pub mod Cells
pub mod Points
