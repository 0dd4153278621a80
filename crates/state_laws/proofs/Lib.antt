pub mod Evictions
pub mod FreeRegisters
pub mod Separate
pub mod Ways
pub mod Classes
pub mod Spilling
