use Rattle.std.proofs.Common.{◌≡◌, ◌++◌, take, map}
use Rattle.mir_read.specs.Resolving.{edge}
use Rattle.mir_read.proofs.resolve.put_edges.Given as goal

abbrev pub invariant-loop-block : goal.invariant-loop-block
invariant-loop-block l = l.edges ≡ l.fn.edges ++ map (edge l.prob) (take l.block-index l.blocks)
