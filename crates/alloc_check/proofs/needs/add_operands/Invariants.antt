use Rattle.meaning.specs.Facts.{operands_known}
use Rattle.alloc_check.specs.Cells.{asked}
use Rattle.alloc_check.proofs.Least.{EnoughPairs, FewestPairs}
use Rattle.alloc_check.proofs.needs.add_operands.Given as goal

abbrev pub invariant-loop-k : goal.invariant-loop-k
invariant-loop-k l =
    EnoughPairs operands_known (asked l.initial.needs) l.left l.right l.k (asked l.needs) × FewestPairs operands_known (asked l.initial.needs) l.left l.right l.k (asked l.needs)
