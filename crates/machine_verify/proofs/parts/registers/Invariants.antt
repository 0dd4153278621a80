use Rattle.std.proofs.Common.{◌≡◌, ◌++◌, drop}
use Rattle.mir_func.specs.Binding.{registers}
use Rattle.machine_verify.proofs.parts.registers.Given as goal

abbrev pub invariant-loop-o : goal.invariant-loop-o
invariant-loop-o l = l.made.items ++ registers (drop l.o-index l.operands) ≡ registers l.operands
