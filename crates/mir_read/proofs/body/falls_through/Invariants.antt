use Rattle.mir_read.proofs.Found.{FallsGo}
use Rattle.mir_read.proofs.body.falls_through.Given as goal

abbrev pub invariant-loop-i : goal.invariant-loop-i
invariant-loop-i l = FallsGo l.target l.instrs l.i-index l.falls
