use Rattle.std.proofs.Common.{length}
use Rattle.interference.specs.declared.unit_table.UnitTable.{UnitTable}
use Rattle.interference.specs.SavedLists.{PutsBack}
use Rattle.interference.proofs.unit_table.UnitTable.put_back.Given as goal

-- what is left to put back leads to the same table
abbrev pub invariant-saved : goal.invariant-saved
invariant-saved l = (start : UnitTable) → PutsBack start l.fn.log.items l.fn.self → PutsBack start l.log.items l.self

abbrev pub decreases-saved : goal.decreases-saved
decreases-saved l = length l.log.items
