pub mod Values
pub mod Listed
pub mod Cut
pub mod Comments
pub mod Few
pub mod Words
