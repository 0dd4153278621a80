use Rattle.std.proofs.Common.{◌≡◌, ◌++◌, drop}
use Rattle.mir_func.specs.Binding.{implicit_registers}
use Rattle.std.specs.Prelude.{filter, not}
use Rattle.instr_effects.proofs.items.counted.implicit_uses.Given as goal

abbrev pub invariant-loop-o : goal.invariant-loop-o
invariant-loop-o l = l.made ++ filter (λ o. not o.def) (implicit_registers (drop l.o-index l.operands)) ≡ filter (λ o. not o.def) (implicit_registers l.operands)
