pub mod Shown
pub mod Lines
pub mod Within
pub mod Bodies
pub mod Laws
