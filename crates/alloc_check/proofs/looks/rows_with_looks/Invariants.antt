use Rattle.std.proofs.Common.{◌≡◌}
use Rattle.alloc_check.specs.LookRows.{rows_with_looks}
use Rattle.alloc_check.proofs.looks.rows_with_looks.Given as goal

abbrev pub invariant-loop-row : goal.invariant-loop-row
invariant-loop-row l = l.made ≡ rows_with_looks l.units l.yielded
