use Rattle.std.proofs.Common.{◌≡◌, ◌++◌, drop}
use Rattle.mir_meaning.specs.Items.{explicit_definitions}
use Rattle.instr_effects.proofs.items.results.explicit_definitions.Given as goal

abbrev pub invariant-loop-o : goal.invariant-loop-o
invariant-loop-o l = l.made ++ explicit_definitions (drop l.o-index l.operands) ≡ explicit_definitions l.operands
