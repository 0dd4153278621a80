pub mod Summary
pub mod Generated
