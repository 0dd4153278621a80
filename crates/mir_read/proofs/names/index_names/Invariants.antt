use Rattle.target_base.specs.declared.types.IndexDesc.{IndexDesc}
use Rattle.mir_read.proofs.Distinct.{NamesGo}
use Rattle.mir_read.proofs.names.index_names.Given as goal

abbrev pub invariant-loop-d : goal.invariant-loop-d
invariant-loop-d l = NamesGo {X = IndexDesc} (λ d. d.name) l.indexes l.d-index l.names
