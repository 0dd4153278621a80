use Rattle.std.proofs.Common.{◌≡◌, length}
use Rattle.mir_func.specs.Binding.{explicit_roles}
use Rattle.mir_func.proofs.opcodes.next_role.Given as goal

abbrev pub invariant-roles : goal.invariant-roles
invariant-roles l = explicit_roles l.roles ≡ explicit_roles l.rest

abbrev pub decreases-roles : goal.decreases-roles
decreases-roles l = length l.rest
