use Rattle.alloc_check.proofs.family.block_needs.Given as goal

abbrev pub decreases-loop-at : goal.decreases-loop-at
decreases-loop-at l = l.at
