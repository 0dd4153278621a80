use Rattle.std.proofs.Common.{◌<◌, ℕ}
use Rattle.live_lanes.specs.Spread.{IsFirst, LaneHasPoints}
use Rattle.live_lanes.proofs.live.LiveFunc.first_block.Given as goal

abbrev pub invariant-lanes : goal.invariant-lanes
invariant-lanes l = IsFirst (λ b. (j : ℕ) × (j < l.k) × LaneHasPoints l.self.table l.v j b) l.first
