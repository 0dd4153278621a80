use Rattle.std.proofs.Common.{◌≡◌, ◌++◌, map, drop}
use Rattle.mir_meaning.specs.Items.{use_value}
use Rattle.instr_effects.proofs.items.counted.push_uses.Given as goal

abbrev pub invariant-loop-o : goal.invariant-loop-o
invariant-loop-o l = l.out ++ map (use_value l.t l.f) (drop l.o-index l.operands) ≡ l.initial.out ++ map (use_value l.t l.f) l.operands
