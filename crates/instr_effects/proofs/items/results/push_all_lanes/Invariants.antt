use Rattle.std.proofs.Common.{◌≡◌, ◌++◌, drop}
use Rattle.mir_meaning.specs.Items.{all_lanes}
use Rattle.instr_effects.proofs.items.results.push_all_lanes.Given as goal

abbrev pub invariant-loop-o : goal.invariant-loop-o
invariant-loop-o l = l.out ++ all_lanes l.t l.f (drop l.o-index l.operands) ≡ l.initial.out ++ all_lanes l.t l.f l.operands
