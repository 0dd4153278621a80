use Rattle.std.proofs.Common.{◌≡◌, ◌++◌, drop}
use Rattle.mir_meaning.specs.Items.{moved}
use Rattle.instr_effects.proofs.items.writes.push_moved.Given as goal

abbrev pub invariant-loop-k : goal.invariant-loop-k
invariant-loop-k l = l.out ++ moved l.early (drop l.k l.lanes) (drop l.k l.sources) ≡ l.initial.out ++ moved l.early l.lanes l.sources
