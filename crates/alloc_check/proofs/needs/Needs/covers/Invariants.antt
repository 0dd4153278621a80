use Rattle.std.proofs.Common.{◌≡◌, drop, true}
use Rattle.meaning.specs.Facts.{Knowledge, all_known}
use Rattle.alloc_check.specs.Needs.{IsLawful}
use Rattle.alloc_check.specs.Cells.{asked}
use Rattle.alloc_check.proofs.needs.Needs.covers.Given as goal

abbrev pub invariant-loop-f : goal.invariant-loop-f
invariant-loop-f l = (k : Knowledge) → IsLawful k → all_known k (asked l.self) ≡ true → all_known k (drop l.f-index l.facts) ≡ all_known k l.facts
