use Rattle.std.proofs.Common.{◌≡◌, ◌≤◌, length}
use Rattle.target_base.specs.Roles.{classes_of}
use Rattle.target_desc.proofs.roles.next_class.Given as goal

abbrev pub invariant-roles : goal.invariant-roles
invariant-roles l = record {
  same : classes_of l.rs ≡ classes_of l.rest;
  shorter : length l.rest ≤ length l.rs;
}

abbrev pub decreases-roles : goal.decreases-roles
decreases-roles l = length l.rest
