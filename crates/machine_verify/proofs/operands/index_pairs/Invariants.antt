use Rattle.std.proofs.Common.{◌≡◌, length}
use Rattle.mir_meaning.specs.Rules.{index_pairs}
use Rattle.machine_verify.proofs.operands.index_pairs.Given as goal

abbrev pub invariant-pairs : goal.invariant-pairs
invariant-pairs l = index_pairs l.operands ≡ index_pairs l.rest

abbrev pub decreases-pairs : goal.decreases-pairs
decreases-pairs l = length l.rest
