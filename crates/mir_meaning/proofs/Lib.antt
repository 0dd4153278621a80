pub mod Points
pub mod Faults
pub mod Doubts
pub mod Renaming
