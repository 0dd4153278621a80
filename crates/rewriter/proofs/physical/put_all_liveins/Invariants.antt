use Rattle.std.proofs.Common.{◌≡◌, ◌++◌, length, take, drop}
use Rattle.rewriter.specs.Physical.{with_liveins}
use Rattle.rewriter.proofs.physical.put_all_liveins.Given as goal

abbrev pub invariant-layout : goal.invariant-layout
invariant-layout l = (take l.k l.blocks ++ with_liveins (drop l.k l.liveins) (drop l.k l.blocks) ≡ with_liveins l.liveins l.fn.blocks) × (length l.blocks ≡ length l.fn.blocks)
