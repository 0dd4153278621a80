use Rattle.target_base.specs.declared.types.OpcodeDesc.{OpcodeDesc}
use Rattle.mir_read.proofs.Distinct.{NamesGo}
use Rattle.mir_read.proofs.names.opcode_names.Given as goal

abbrev pub invariant-loop-d : goal.invariant-loop-d
invariant-loop-d l = NamesGo {X = OpcodeDesc} (λ d. d.name) l.opcodes l.d-index l.names
