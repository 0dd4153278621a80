pub mod Text
pub mod Generated
