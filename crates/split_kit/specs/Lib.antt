pub mod Split
pub mod PartEdits
pub mod BlockWalk
pub mod MaySplit
