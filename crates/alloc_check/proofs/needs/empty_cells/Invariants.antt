use Rattle.std.proofs.Common.{◌≡◌, []}
use Rattle.alloc_check.specs.Cells.{asked_in}
use Rattle.alloc_check.proofs.needs.empty_cells.Given as goal

abbrev pub invariant-loop : goal.invariant-loop
invariant-loop l = asked_in l.slots l.cells ≡ []
