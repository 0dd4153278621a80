use Rattle.target_base.specs.declared.types.RegDesc.{RegDesc}
use Rattle.mir_read.proofs.Distinct.{names_begin}
use Rattle.mir_read.proofs.names.reg_names.Goals as goal

pub loop-d-init : goal.loop-d-init
loop-d-init c = rw c.new-names.ensures (names_begin {X = RegDesc} (λ d. d.name) c.args.regs.now c.requires.distinct)
