use Rattle.meaning.specs.Agree.{known_along}
use Rattle.alloc_check.specs.Cells.{asked}
use Rattle.alloc_check.proofs.Least.{Enough, Fewest}
use Rattle.alloc_check.proofs.needs.add_along.Given as goal

abbrev pub invariant-loop-f : goal.invariant-loop-f
invariant-loop-f l =
    Enough (known_along l.way) (asked l.initial.needs) l.facts l.f-index (asked l.needs)
    × Fewest (known_along l.way) (asked l.initial.needs) l.facts l.f-index (asked l.needs)
