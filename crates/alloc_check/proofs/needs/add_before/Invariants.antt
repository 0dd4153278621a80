use Rattle.meaning.specs.Facts.{known_both}
use Rattle.alloc_check.specs.Cells.{asked}
use Rattle.alloc_check.proofs.Least.{Enough, Fewest}
use Rattle.alloc_check.proofs.needs.add_before.Given as goal

abbrev pub invariant-loop-f : goal.invariant-loop-f
invariant-loop-f l =
    Enough (known_both l.first l.second) (asked l.initial.needs) l.facts l.f-index (asked l.needs)
    × Fewest (known_both l.first l.second) (asked l.initial.needs) l.facts l.f-index (asked l.needs)
