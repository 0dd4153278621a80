use Rattle.mir_read.proofs.Found.{ContainsGo}
use Rattle.mir_read.proofs.keys.contains.Given as goal

abbrev pub invariant-loop-k : goal.invariant-loop-k
invariant-loop-k l = ContainsGo l.part l.text l.k
