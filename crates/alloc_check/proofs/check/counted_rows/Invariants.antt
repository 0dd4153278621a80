use Rattle.std.proofs.Common.{◌≡◌, ◌+◌, ◌≤◌, drop}
use Rattle.alloc_check.specs.Asking.{counted_rows}
use Rattle.alloc_check.proofs.check.counted_rows.Given as goal

abbrev pub invariant-loop-k : goal.invariant-loop-k
invariant-loop-k l = (l.count + counted_rows (drop l.k l.rows) ≡ counted_rows l.rows) × (l.count ≤ l.k)
