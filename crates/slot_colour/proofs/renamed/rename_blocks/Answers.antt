use Rattle.std.proofs.Common.{arith}
use Rattle.std.proofs.lemmas.List.Edits.{map_over_more}
use Rattle.slot_colour.specs.Colouring.{renamed_block}
use Rattle.slot_colour.proofs.renamed.rename_blocks.Goals as goal

pub layout-preserved : goal.layout-preserved
layout-preserved c =
    rw c.rename_block.ensures (map_over_more (renamed_block c.args.taken.now) c.args.blocks.now _ c.layout.k _ (omega arith) c.layout.invariant c.get_mut.ensures.value)
