use Rattle.std.proofs.Common.{◌≡◌, false}
use Rattle.live_lanes.specs.Entered.{causes}
use Rattle.live_lanes.specs.Graph.{is_live}
use Rattle.live_lanes.specs.Touching.{some_below}
use Rattle.live_lanes.proofs.table.LaneRanges.is_some_live_in.Given as goal

abbrev pub invariant-lanes : goal.invariant-lanes
invariant-lanes l = false ≡ some_below (λ n. is_live (causes l.self.rows.items n l.block 0)) l.own.first l.k
