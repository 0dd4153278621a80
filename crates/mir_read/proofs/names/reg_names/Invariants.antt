use Rattle.target_base.specs.declared.types.RegDesc.{RegDesc}
use Rattle.mir_read.proofs.Distinct.{NamesGo}
use Rattle.mir_read.proofs.names.reg_names.Given as goal

abbrev pub invariant-loop-d : goal.invariant-loop-d
invariant-loop-d l = NamesGo {X = RegDesc} (λ d. d.name) l.regs l.d-index l.names
