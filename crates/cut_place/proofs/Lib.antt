pub mod Sums
pub mod Trails
pub mod Facts
pub mod Searches
pub mod Rounds
pub mod Cuts
pub mod Adjacency
