use Rattle.std.proofs.Common.{◌≡◌}
use Rattle.alloc_check.proofs.settle.put.Given as goal

abbrev pub invariant-loop-k : goal.invariant-loop-k
invariant-loop-k l = l.family ≡ l.initial.family
