use Rattle.std.proofs.Common.{◌≡◌, drop}
use Rattle.mir_meaning.specs.Agreement.{unlike_block, blocks_alike}
use Rattle.alloc_check.proofs.doubts.unlike_later.Given as goal

abbrev pub invariant-loop-k : goal.invariant-loop-k
invariant-loop-k l = unlike_block blocks_alike (drop l.k l.blocks) (drop l.k l.others) ≡ unlike_block blocks_alike l.blocks l.others
