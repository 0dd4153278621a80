pub mod CodeLemmas
pub mod MachineCodeLemmas
pub mod AllocatorExamples
