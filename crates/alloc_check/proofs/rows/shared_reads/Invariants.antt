use Rattle.std.proofs.Common.{◌≡◌, ◌++◌, drop}
use Rattle.alloc_check.specs.Bare.{shared_reads}
use Rattle.alloc_check.proofs.rows.shared_reads.Given as goal

abbrev pub invariant-loop-k : goal.invariant-loop-k
invariant-loop-k l = l.made ++ shared_reads (drop l.k l.reads) (drop l.k l.others) ≡ shared_reads l.reads l.others
