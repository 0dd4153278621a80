pub mod Status
pub mod Spot
pub mod Documents
pub mod Generated
pub mod Answer
pub mod Piece
pub mod Pairs
pub mod Told
