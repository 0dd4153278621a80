use Rattle.std.proofs.Common.{◌≡◌, drop}
use Rattle.alloc_check.specs.Marks.{unwritten}
use Rattle.alloc_check.proofs.cells.is_unwritten.Given as goal

abbrev pub invariant-loop-w : goal.invariant-loop-w
invariant-loop-w l = unwritten (drop l.w-index l.writes) l.lane ≡ unwritten l.writes l.lane
