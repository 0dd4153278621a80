use Rattle.std.proofs.Common.{◌≡◌, take}
use Rattle.alloc_check.specs.Cells.{asked_in}
use Rattle.alloc_check.proofs.needs.Needs.list.Given as goal

abbrev pub invariant-loop-cell : goal.invariant-loop-cell
invariant-loop-cell l = l.all ≡ asked_in l.self.slots (take l.cell-index l.self.cells)
