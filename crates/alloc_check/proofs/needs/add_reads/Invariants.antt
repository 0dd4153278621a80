use Rattle.meaning.specs.Facts.{reads_known}
use Rattle.alloc_check.specs.Cells.{asked}
use Rattle.alloc_check.proofs.Least.{EnoughPairs, FewestPairs}
use Rattle.alloc_check.proofs.needs.add_reads.Given as goal

abbrev pub invariant-loop-k : goal.invariant-loop-k
invariant-loop-k l =
    EnoughPairs reads_known (asked l.initial.needs) l.left l.right l.k (asked l.needs) × FewestPairs reads_known (asked l.initial.needs) l.left l.right l.k (asked l.needs)
