use Rattle.std.proofs.Common.{◌≡◌, ◌++◌, take}
use Rattle.std.specs.List.{filter}
use Rattle.alloc_check.specs.Cells.{belongs}
use Rattle.alloc_check.proofs.needs.list_cell.Given as goal

abbrev pub invariant-loop-f : goal.invariant-loop-f
invariant-loop-f l = l.facts ≡ l.initial.facts ++ filter (belongs l.slots l.cell) (take l.f-index l.cell.facts)
