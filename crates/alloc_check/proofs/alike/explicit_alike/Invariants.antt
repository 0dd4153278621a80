use Rattle.std.proofs.Common.{◌≡◌, drop}
use Rattle.mir_meaning.specs.Agreement.{all_alike, operand_alike}
use Rattle.mir_func.specs.Binding.{explicit_operands}
use Rattle.alloc_check.proofs.alike.explicit_alike.Given as goal

abbrev pub invariant-loop-o : goal.invariant-loop-o
invariant-loop-o l = all_alike operand_alike (explicit_operands (drop l.o-index l.operands)) (explicit_operands l.left) ≡ all_alike operand_alike (explicit_operands l.operands) (explicit_operands l.others)
