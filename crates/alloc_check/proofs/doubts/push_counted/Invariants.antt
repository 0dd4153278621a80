use Rattle.std.proofs.Common.{◌≡◌, ◌++◌, drop}
use Rattle.mir_meaning.specs.Agreement.{counted_from}
use Rattle.alloc_check.proofs.doubts.push_counted.Given as goal

abbrev pub invariant-loop-k : goal.invariant-loop-k
invariant-loop-k l = l.places ++ counted_from l.t l.b.number l.k (drop l.k l.b.instrs) ≡ l.initial.places ++ counted_from l.t l.b.number 0 l.b.instrs
