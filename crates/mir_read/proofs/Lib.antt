pub mod Distinct
pub mod Lists
pub mod Targets
pub mod Sets
pub mod Found
pub mod TargetNames
