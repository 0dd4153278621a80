use Rattle.std.proofs.Common.{◌<◌}
use Rattle.live_lanes.specs.Looks.{InOrder}
use Rattle.live_lanes.specs.Held.{IsSpan, any_held}
use Rattle.live_lanes.proofs.table.Table.span.Given as goal

abbrev pub invariant-lanes : goal.invariant-lanes
invariant-lanes l = record {
  further : l.at < l.span.end;
  span : InOrder l.self → IsSpan (any_held l.self.order.slots l.self.rows.rows.items l.own.first l.k l.block) l.at l.span;
}
