use Rattle.std.proofs.Common.{◌≡◌, drop}
use Rattle.std.specs.Prelude.{find}
use Rattle.mir_func.specs.Binding.{implicit_roles, takes_role}
use Rattle.bound_operands.proofs.implicit_role.Given as goal

abbrev pub invariant-loop-role : goal.invariant-loop-role
invariant-loop-role l = find (takes_role l.o) (implicit_roles l.roles) ≡ find (takes_role l.o) (implicit_roles (drop l.role-index l.roles))
