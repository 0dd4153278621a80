use Rattle.std.proofs.Common.{◌≤◌, drop, length}
use Rattle.alloc_check.specs.Needs.{Suffice}
use Rattle.alloc_check.specs.Cells.{asked}
use Rattle.alloc_check.proofs.closed.needs_before.Given as goal

abbrev pub invariant-loop-k : goal.invariant-loop-k
invariant-loop-k l = (l.k ≤ length l.rows) × Suffice l.family (drop l.k l.rows) (asked l.needs)

abbrev pub decreases-loop-k : goal.decreases-loop-k
decreases-loop-k l = l.k
