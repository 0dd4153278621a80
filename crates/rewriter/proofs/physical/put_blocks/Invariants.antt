use Rattle.std.proofs.Common.{◌≡◌, ◌++◌, take, drop, map}
use Rattle.rewriter.specs.Physical.{physical_block}
use Rattle.rewriter.proofs.physical.put_blocks.Given as goal

abbrev pub invariant-layout : goal.invariant-layout
invariant-layout l = l.blocks ≡ map (physical_block l.target l.registers) (take l.k l.fn.blocks) ++ drop l.k l.fn.blocks
