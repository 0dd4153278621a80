use Rattle.std.proofs.Common.{◌≡◌, ◌&&◌, take}
use Rattle.meaning.specs.Facts.{Knowledge, all_known}
use Rattle.alloc_check.specs.Cells.{asked}
use Rattle.alloc_check.proofs.needs.Needs.place_all.Given as goal

abbrev pub invariant-loop-f : goal.invariant-loop-f
invariant-loop-f l = (k : Knowledge) → all_known k (asked l.self) ≡ all_known k (take l.f-index l.facts) && all_known k (asked l.initial.self)
