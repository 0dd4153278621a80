pub mod Code
pub mod MachineCode
