use Rattle.std.proofs.Common.{◌≡◌, drop}
use Rattle.std.specs.List.{list_any}
use Rattle.mir_func.specs.Binding.{registers, is_virtual}
use Rattle.machine_verify.proofs.liveins.instrs_name_virtual.Given as goal

abbrev pub invariant-loop-i : goal.invariant-loop-i
invariant-loop-i l = list_any (λ i. list_any (λ o. is_virtual o.loc) (registers i.operands)) l.instrs ≡ list_any (λ i. list_any (λ o. is_virtual o.loc) (registers i.operands)) (drop l.i-index l.instrs)
