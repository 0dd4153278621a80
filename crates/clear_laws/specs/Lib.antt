pub mod Apart
pub mod Edits
pub mod Spills
