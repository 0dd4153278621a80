pub mod PassLemmas
pub mod GuardLemmas
