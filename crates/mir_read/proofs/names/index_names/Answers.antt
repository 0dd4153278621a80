use Rattle.target_base.specs.declared.types.IndexDesc.{IndexDesc}
use Rattle.mir_read.proofs.Distinct.{names_begin}
use Rattle.mir_read.proofs.names.index_names.Goals as goal

pub loop-d-init : goal.loop-d-init
loop-d-init c = rw c.new-names.ensures (names_begin {X = IndexDesc} (λ d. d.name) c.args.indexes.now c.requires.distinct)
