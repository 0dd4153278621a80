use Rattle.std.proofs.Common.{◌≡◌, drop}
use Rattle.std.specs.Prelude.{filter}
use Rattle.mir_meaning.specs.Agreement.{is_counted, unpaired}
use Rattle.alloc_check.proofs.doubts.first_unpaired.Given as goal

abbrev pub invariant-loop-k : goal.invariant-loop-k
invariant-loop-k l = unpaired l.t l.f l.g l.k (drop l.k l.instrs) (filter (is_counted l.t) l.left) ≡ unpaired l.t l.f l.g 0 l.instrs (filter (is_counted l.t) l.others)
