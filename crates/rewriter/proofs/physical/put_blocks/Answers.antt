use Rattle.std.proofs.Common.{arith}
use Rattle.std.proofs.lemmas.List.Edits.{map_over_more}
use Rattle.rewriter.specs.Physical.{physical_block}
use Rattle.rewriter.proofs.physical.put_blocks.Goals as goal

pub layout-preserved : goal.layout-preserved
layout-preserved c =
    rw c.in_ok-put_block.ensures (map_over_more (physical_block c.args.target.now c.args.registers.now) c.args.blocks.now _ c.layout.k _ (omega arith) c.layout.invariant c.get_mut.ensures.value)
