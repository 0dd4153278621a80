pub mod BlockLines
pub mod Numbers
pub mod Uses
pub mod Rows
pub mod Parts
pub mod Text
