use Rattle.std.proofs.Common.{◌≡◌, ◌++◌, drop}
use Rattle.alloc_check.proofs.rows.copies_of.Given as goal

abbrev pub invariant-loop-s : goal.invariant-loop-s
invariant-loop-s l = l.made ++ drop l.s-index l.sources ≡ l.sources
