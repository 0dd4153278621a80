use Rattle.target_base.specs.declared.types.ClassDesc.{ClassDesc}
use Rattle.mir_read.proofs.Distinct.{names_begin}
use Rattle.mir_read.proofs.names.class_names.Goals as goal

pub loop-d-init : goal.loop-d-init
loop-d-init c = rw c.new-names.ensures (names_begin {X = ClassDesc} (λ d. d.name) c.args.classes.now c.requires.distinct)
