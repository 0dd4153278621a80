pub mod Rules
pub mod Valid
pub mod Kept
