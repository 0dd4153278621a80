use Rattle.std.proofs.Common.{◌≡◌, drop}
use Rattle.mir_meaning.specs.Items.{first_width}
use Rattle.mir_func.specs.Binding.{registers}
use Rattle.instr_effects.proofs.items.counted.first_width.Given as goal

abbrev pub invariant-loop-o : goal.invariant-loop-o
invariant-loop-o l = first_width l.t l.f (registers (drop l.o-index l.operands)) ≡ first_width l.t l.f (registers l.operands)
