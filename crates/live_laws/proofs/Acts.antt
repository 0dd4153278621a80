pub mod Found
pub mod Read
pub mod Told
pub mod Within
