pub mod Sets
pub mod Operands
pub mod Ties
pub mod InstrRules
pub mod Faults
pub mod Liveins
pub mod Lives
pub mod Verdict
