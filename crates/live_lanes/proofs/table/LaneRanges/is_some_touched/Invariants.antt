use Rattle.std.proofs.Common.{◌≡◌, false}
use Rattle.live_lanes.specs.Touching.{some_below, touches_lane}
use Rattle.live_lanes.proofs.table.LaneRanges.is_some_touched.Given as goal

abbrev pub invariant-lanes : goal.invariant-lanes
invariant-lanes l = false ≡ some_below (touches_lane l.self.rows.items) l.own.first l.k
