use Rattle.std.proofs.Common.{◌≡◌, false}
use Rattle.live_lanes.specs.Ends.{row_at}
use Rattle.live_lanes.specs.Looks.{InOrder}
use Rattle.live_lanes.specs.Touching.{some_below}
use Rattle.live_lanes.proofs.table.Table.is_some_live_at.Given as goal

abbrev pub invariant-lanes : goal.invariant-lanes
invariant-lanes l = InOrder l.self → false ≡ some_below (λ n. row_at l.self.order.slots l.self.rows.rows.items n l.block l.at) l.own.first l.k
