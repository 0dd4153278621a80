use Rattle.std.proofs.Common.{take}
use Rattle.alloc_check.specs.Marks.{Marks}
use Rattle.alloc_check.proofs.cells.marks_of.Given as goal

abbrev pub invariant-loop-w : goal.invariant-loop-w
invariant-loop-w l = Marks l.slots l.marks.items (take l.w-index l.writes)
