use Rattle.std.proofs.Common.{◌≡◌, drop}
use Rattle.mir_func.specs.Binding.{explicit_operands}
use Rattle.alloc_check.proofs.alike.next_explicit.Given as goal

abbrev pub invariant-loop-k : goal.invariant-loop-k
invariant-loop-k l = explicit_operands (drop l.k l.operands) ≡ explicit_operands l.operands
