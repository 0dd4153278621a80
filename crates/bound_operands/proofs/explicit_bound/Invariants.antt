use Rattle.std.proofs.Common.{◌≡◌, ◌++◌, drop}
use Rattle.mir_func.specs.Binding.{explicit_bound, explicit_roles, explicit_operands}
use Rattle.bound_operands.specs.Seen.{seen_all}
use Rattle.bound_operands.proofs.explicit_bound.Given as goal

abbrev pub invariant-loop-operand : goal.invariant-loop-operand
invariant-loop-operand l =
    seen_all l.made.items ++ explicit_bound (explicit_roles l.left) (explicit_operands (drop l.operand-index l.operands))
    ≡ explicit_bound (explicit_roles l.roles) (explicit_operands l.operands)
