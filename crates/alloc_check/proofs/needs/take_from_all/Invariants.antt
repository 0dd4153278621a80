use Rattle.alloc_check.specs.Cells.{TakenTo}
use Rattle.alloc_check.proofs.needs.take_from_all.Given as goal

abbrev pub invariant-loop-i : goal.invariant-loop-i
invariant-loop-i l = TakenTo l.slots l.writes.first.now l.writes.second.now l.i l.fn.cells l.cells l.taken
