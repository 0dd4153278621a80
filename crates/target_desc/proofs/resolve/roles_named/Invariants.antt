use Rattle.std.proofs.Common.{◌≡◌, drop}
use Rattle.target_desc.specs.Resolving.{roles_named}
use Rattle.target_desc.proofs.Onto.{onto}
use Rattle.target_desc.proofs.resolve.roles_named.Given as goal

abbrev pub invariant-loop-role : goal.invariant-loop-role
invariant-loop-role l = roles_named l.names l.raw ≡ onto l.made (roles_named l.names (drop l.role-index l.raw))
