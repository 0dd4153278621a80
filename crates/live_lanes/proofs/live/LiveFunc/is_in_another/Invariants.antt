use Rattle.std.proofs.Common.{◌<◌, ◌≢◌, ℕ}
use Rattle.live_lanes.specs.Spread.{LaneHasPoints}
use Rattle.live_lanes.proofs.live.LiveFunc.is_in_another.Given as goal

abbrev pub invariant-lanes : goal.invariant-lanes
invariant-lanes l = (j b : ℕ) → j < l.k → (b ≢ l.block) → LaneHasPoints l.self.table l.v j b → ⊥
