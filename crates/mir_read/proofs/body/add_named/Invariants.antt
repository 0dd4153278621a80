use Rattle.mir_read.proofs.Targets.{NamedGo}
use Rattle.mir_read.proofs.body.add_named.Given as goal

abbrev pub invariant-loop-o : goal.invariant-loop-o
invariant-loop-o l = NamedGo l.i.operands l.fn.blocks l.o-index l.blocks
