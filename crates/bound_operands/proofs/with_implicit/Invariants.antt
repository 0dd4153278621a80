use Rattle.std.proofs.Common.{◌≡◌, ◌++◌, drop, map}
use Rattle.mir_func.specs.Binding.{implicit_bound, implicit_roles, implicit_registers}
use Rattle.bound_operands.specs.Seen.{seen_all}
use Rattle.bound_operands.proofs.with_implicit.Given as goal

abbrev pub invariant-loop-operand : goal.invariant-loop-operand
invariant-loop-operand l =
    seen_all l.all.items ++ map (implicit_bound (implicit_roles l.roles)) (implicit_registers (drop l.operand-index l.operands))
    ≡ seen_all l.fn.made.items ++ map (implicit_bound (implicit_roles l.roles)) (implicit_registers l.operands)
