use Rattle.std.proofs.Common.{◌≡◌, ◌++◌, map, take, drop}
use Rattle.slot_colour.specs.Colouring.{renamed_block}
use Rattle.slot_colour.proofs.renamed.rename_blocks.Given as goal

abbrev pub invariant-layout : goal.invariant-layout
invariant-layout l = l.blocks ≡ map (renamed_block l.taken) (take l.k l.fn.blocks) ++ drop l.k l.fn.blocks
