use Rattle.std.proofs.Common.{◌≤◌, drop, length}
use Rattle.alloc_check.specs.Asking.{asked_to}
use Rattle.alloc_check.specs.Families.{IsPassed}
use Rattle.alloc_check.proofs.settle.pass_over.Given as goal

abbrev pub invariant-loop-k : goal.invariant-loop-k
invariant-loop-k l = (l.k ≤ length l.rows) × IsPassed l.initial.family l.family (drop l.k (asked_to l.asking l.rows)) l.pass

abbrev pub decreases-loop-k : goal.decreases-loop-k
decreases-loop-k l = l.k
