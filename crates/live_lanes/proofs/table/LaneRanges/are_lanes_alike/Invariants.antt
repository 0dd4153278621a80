use Rattle.std.proofs.Common.{◌≡◌, ◌<◌, ◌+◌, ℕ}
use Rattle.live_lanes.specs.Alike.{outline}
use Rattle.live_lanes.specs.Entered.{rows_seen}
use Rattle.live_lanes.proofs.table.LaneRanges.are_lanes_alike.Given as goal

abbrev pub invariant-lanes : goal.invariant-lanes
invariant-lanes l = (j n : ℕ) → j < l.k → outline (rows_seen l.self.rows.items l.own.first n) ≡ outline (rows_seen l.self.rows.items (l.own.first + j) n)
