pub mod Targets
pub mod Numbers
pub mod Residues
pub mod Lists
pub mod Slots
