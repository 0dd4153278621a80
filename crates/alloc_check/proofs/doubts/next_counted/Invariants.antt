use Rattle.std.proofs.Common.{◌≡◌, drop}
use Rattle.std.specs.Prelude.{filter}
use Rattle.mir_meaning.specs.Agreement.{is_counted}
use Rattle.alloc_check.proofs.doubts.next_counted.Given as goal

abbrev pub invariant-loop-k : goal.invariant-loop-k
invariant-loop-k l = filter (is_counted l.t) (drop l.k l.instrs) ≡ filter (is_counted l.t) l.instrs
