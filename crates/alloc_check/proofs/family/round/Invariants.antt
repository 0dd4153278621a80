use Rattle.alloc_check.proofs.family.round.Given as goal

abbrev pub decreases-loop-k : goal.decreases-loop-k
decreases-loop-k l = l.k
