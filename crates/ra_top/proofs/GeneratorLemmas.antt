pub mod Joined
pub mod Numbers
pub mod Rows
pub mod Short
pub mod Read
