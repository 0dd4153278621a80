use Rattle.std.proofs.Common.{◌≡◌, drop}
use Rattle.mir_func.specs.Binding.{implicit_registers}
use Rattle.alloc_check.proofs.alike.next_implicit.Given as goal

abbrev pub invariant-loop-k : goal.invariant-loop-k
invariant-loop-k l = implicit_registers (drop l.k l.operands) ≡ implicit_registers l.operands
