pub mod Flows
pub mod Links
pub mod Residual
pub mod Searches
pub mod Trails
