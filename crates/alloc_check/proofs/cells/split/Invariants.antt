use Rattle.std.proofs.Common.{take}
use Rattle.alloc_check.specs.Cells.{Splits, belongs}
use Rattle.alloc_check.proofs.cells.split.Given as goal

abbrev pub invariant-loop-f : goal.invariant-loop-f
invariant-loop-f l = Splits (belongs l.slots l.cell) l.first l.second (take l.f-index l.cell.facts) l.fn.taken l.kept l.taken
