use Rattle.target_base.specs.declared.types.MaskDesc.{MaskDesc}
use Rattle.mir_read.proofs.Distinct.{names_begin}
use Rattle.mir_read.proofs.names.mask_names.Goals as goal

pub loop-d-init : goal.loop-d-init
loop-d-init c = rw c.new-names.ensures (names_begin {X = MaskDesc} (λ d. d.name) c.args.masks.now c.requires.distinct)
