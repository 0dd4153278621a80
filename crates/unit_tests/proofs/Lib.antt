pub mod BaseLemmas
pub mod MoreArcs
