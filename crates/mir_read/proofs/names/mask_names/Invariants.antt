use Rattle.target_base.specs.declared.types.MaskDesc.{MaskDesc}
use Rattle.mir_read.proofs.Distinct.{NamesGo}
use Rattle.mir_read.proofs.names.mask_names.Given as goal

abbrev pub invariant-loop-d : goal.invariant-loop-d
invariant-loop-d l = NamesGo {X = MaskDesc} (λ d. d.name) l.masks l.d-index l.names
