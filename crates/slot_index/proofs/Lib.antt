pub mod Present
pub mod Ordered
pub mod Edits
pub mod Renewal
pub mod Kept
pub mod Room
