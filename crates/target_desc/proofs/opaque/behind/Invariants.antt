use Rattle.std.proofs.Common.{◌≡◌, length}
use Rattle.target_base.specs.Roles as roles
use Rattle.target_desc.specs.Shapes.{passes}
use Rattle.target_desc.proofs.opaque.behind.Given as goal

abbrev pub invariant-roles : goal.invariant-roles
invariant-roles l = roles.behind (passes l.test) l.rs ≡ roles.behind (passes l.test) l.rest

abbrev pub decreases-roles : goal.decreases-roles
decreases-roles l = length l.rest
