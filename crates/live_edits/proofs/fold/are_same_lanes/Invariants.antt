use Rattle.std.proofs.Common.{◌≡◌, drop}
use Rattle.live_edits.specs.Folded.{same_lanes}
use Rattle.live_edits.proofs.fold.are_same_lanes.Given as goal

abbrev pub invariant-lanes : goal.invariant-lanes
invariant-lanes l = same_lanes l.a l.b ≡ same_lanes (drop l.k l.a) (drop l.k l.b)
