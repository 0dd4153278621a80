use Rattle.std.proofs.Common.{◌≡◌, drop}
use Rattle.mir_meaning.specs.Items.{symbol_of}
use Rattle.instr_effects.proofs.items.counted.symbol_of.Given as goal

abbrev pub invariant-loop-o : goal.invariant-loop-o
invariant-loop-o l = symbol_of (drop l.o-index l.operands) ≡ symbol_of l.operands
