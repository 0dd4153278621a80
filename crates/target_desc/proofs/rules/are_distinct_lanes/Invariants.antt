use Rattle.std.proofs.Common.{◌≡◌, length}
use Rattle.target_base.specs.Names.{are_distinct_numbers}
use Rattle.target_desc.proofs.rules.are_distinct_lanes.Given as goal

abbrev pub invariant-lanes : goal.invariant-lanes
invariant-lanes l = are_distinct_numbers l.lanes ≡ are_distinct_numbers l.rest

abbrev pub decreases-lanes : goal.decreases-lanes
decreases-lanes l = length l.rest
