use Rattle.std.proofs.Common.{◌≡◌, length}
use Rattle.std.specs.Prelude.{◌==◌, count_by}
use Rattle.std.specs.List.{list_all}
use Rattle.mir_func.specs.Binding.{implicit_roles, takes_role}
use Rattle.mir_meaning.specs.Rules.{same_role}
use Rattle.machine_verify.proofs.operands.each_stands.Given as goal

abbrev pub invariant-roles : goal.invariant-roles
invariant-roles l =
    list_all (λ r. count_by (λ o. takes_role o r) l.implicit == count_by (same_role r) l.roles) (implicit_roles l.roles)
    ≡ list_all (λ r. count_by (λ o. takes_role o r) l.implicit == count_by (same_role r) l.roles) (implicit_roles l.rest)

abbrev pub decreases-roles : goal.decreases-roles
decreases-roles l = length l.rest
