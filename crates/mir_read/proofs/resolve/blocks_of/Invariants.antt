use Rattle.std.proofs.Common.{◌≡◌, take, map}
use Rattle.mir_read.proofs.resolve.blocks_of.Given as goal

abbrev pub invariant-loop-e : goal.invariant-loop-e
invariant-loop-e l = l.blocks ≡ map (λ e. e.block) (take l.e-index l.raw)
