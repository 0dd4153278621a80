use Rattle.std.proofs.Common.{◌≡◌, drop}
use Rattle.std.specs.List.{list_all}
use Rattle.alloc_check.specs.Cells.{stays_both}
use Rattle.alloc_check.proofs.cells.all_stay.Given as goal

abbrev pub invariant-loop-f : goal.invariant-loop-f
invariant-loop-f l = list_all (stays_both l.writes.first.now l.writes.second.now) (drop l.f-index l.facts) ≡ list_all (stays_both l.writes.first.now l.writes.second.now) l.facts
