use Rattle.std.proofs.Common.{◌≡◌, length, map}
use Rattle.target_base.specs.Names.{are_distinct_numbers}
use Rattle.target_desc.proofs.rules.are_distinct_units.Given as goal

abbrev pub invariant-units : goal.invariant-units
invariant-units l = are_distinct_numbers (map (λ u. u.0) l.us) ≡ are_distinct_numbers (map (λ u. u.0) l.rest)

abbrev pub decreases-units : goal.decreases-units
decreases-units l = length l.rest
