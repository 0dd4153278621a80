use Rattle.std.proofs.Common.{◌≡◌, ◌++◌, drop}
use Rattle.mir_meaning.specs.Items.{implicit_definitions}
use Rattle.instr_effects.proofs.items.results.implicit_definitions.Given as goal

abbrev pub invariant-loop-o : goal.invariant-loop-o
invariant-loop-o l = l.made ++ implicit_definitions (drop l.o-index l.operands) ≡ implicit_definitions l.operands
