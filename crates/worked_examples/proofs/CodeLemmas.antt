pub mod Computed
pub mod Differing
pub mod Folds
pub mod Clashes
pub mod Stepping
pub mod Living
