use Rattle.std.proofs.Common.{◌≡◌, length}
use Rattle.std.specs.Prelude.{flat_map}
use Rattle.target_base.specs.Names.{are_distinct_numbers}
use Rattle.target_base.specs.Roles.{tied_to}
use Rattle.target_desc.proofs.opaque.are_ties_distinct.Given as goal

abbrev pub invariant-roles : goal.invariant-roles
invariant-roles l = are_distinct_numbers (flat_map tied_to l.rs) ≡ are_distinct_numbers (flat_map tied_to l.rest)

abbrev pub decreases-roles : goal.decreases-roles
decreases-roles l = length l.rest
