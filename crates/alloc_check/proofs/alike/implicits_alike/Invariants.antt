use Rattle.std.proofs.Common.{◌≡◌, drop}
use Rattle.mir_meaning.specs.Agreement.{all_alike, implicit_alike}
use Rattle.mir_func.specs.Binding.{implicit_registers}
use Rattle.alloc_check.proofs.alike.implicits_alike.Given as goal

abbrev pub invariant-loop-o : goal.invariant-loop-o
invariant-loop-o l = all_alike implicit_alike (implicit_registers (drop l.o-index l.operands)) (implicit_registers l.left) ≡ all_alike implicit_alike (implicit_registers l.operands) (implicit_registers l.others)
