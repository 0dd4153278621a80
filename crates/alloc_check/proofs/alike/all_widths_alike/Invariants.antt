use Rattle.std.proofs.Common.{◌≡◌, drop}
use Rattle.mir_meaning.specs.Agreement.{all_alike, widths_alike}
use Rattle.mir_func.specs.Binding.{explicit_operands}
use Rattle.alloc_check.proofs.alike.all_widths_alike.Given as goal

abbrev pub invariant-loop-o : goal.invariant-loop-o
invariant-loop-o l = all_alike (widths_alike l.t l.f l.g) (explicit_operands (drop l.o-index l.operands)) (explicit_operands l.left) ≡ all_alike (widths_alike l.t l.f l.g) (explicit_operands l.operands) (explicit_operands l.others)
