use Rattle.std.proofs.Common.{◌≡◌, drop}
use Rattle.std.specs.List.{list_any}
use Rattle.mir_func.specs.Binding.{registers, is_virtual}
use Rattle.machine_verify.proofs.liveins.operands_name_virtual.Given as goal

abbrev pub invariant-loop-o : goal.invariant-loop-o
invariant-loop-o l = list_any (λ o. is_virtual o.loc) (registers l.operands) ≡ list_any (λ o. is_virtual o.loc) (registers (drop l.o-index l.operands))
