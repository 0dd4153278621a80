use Rattle.meaning.specs.Agree.{ways_hold}
use Rattle.alloc_check.specs.Cells.{asked}
use Rattle.alloc_check.proofs.Least.{EnoughEach, FewestEach}
use Rattle.alloc_check.proofs.closed.add_ways.Given as goal

abbrev pub invariant-loop-e : goal.invariant-loop-e
invariant-loop-e l =
    EnoughEach (ways_hold l.family) (asked l.initial.needs) l.exits l.e-index (asked l.needs) × FewestEach (ways_hold l.family) (asked l.initial.needs) l.exits l.e-index (asked l.needs)
