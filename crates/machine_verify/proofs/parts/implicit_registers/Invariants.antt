use Rattle.std.proofs.Common.{◌≡◌, ◌++◌, drop}
use Rattle.mir_func.specs.Binding.{implicit_registers}
use Rattle.machine_verify.proofs.parts.implicit_registers.Given as goal

abbrev pub invariant-loop-o : goal.invariant-loop-o
invariant-loop-o l = l.made.items ++ implicit_registers (drop l.o-index l.operands) ≡ implicit_registers l.operands
