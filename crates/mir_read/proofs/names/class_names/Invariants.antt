use Rattle.target_base.specs.declared.types.ClassDesc.{ClassDesc}
use Rattle.mir_read.proofs.Distinct.{NamesGo}
use Rattle.mir_read.proofs.names.class_names.Given as goal

abbrev pub invariant-loop-d : goal.invariant-loop-d
invariant-loop-d l = NamesGo {X = ClassDesc} (λ d. d.name) l.classes l.d-index l.names
