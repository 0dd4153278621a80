use Rattle.std.proofs.Common.{◌≡◌, length}
use Rattle.std.specs.List.{list_all}
use Rattle.mir_func.specs.Binding.{explicit_roles, takes_many}
use Rattle.machine_verify.proofs.operands.are_enough.Given as goal

abbrev pub invariant-roles : goal.invariant-roles
invariant-roles l = list_all takes_many (explicit_roles l.roles) ≡ list_all takes_many (explicit_roles l.rest)

abbrev pub decreases-roles : goal.decreases-roles
decreases-roles l = length l.rest
