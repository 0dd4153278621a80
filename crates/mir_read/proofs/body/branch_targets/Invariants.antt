use Rattle.mir_read.proofs.Targets.{TargetsGo}
use Rattle.mir_read.proofs.body.branch_targets.Given as goal

abbrev pub invariant-loop-i : goal.invariant-loop-i
invariant-loop-i l = TargetsGo l.target l.instrs l.i-index l.blocks
