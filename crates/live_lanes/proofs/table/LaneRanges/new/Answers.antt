use Rattle.std.proofs.Common.{arith, ap, length-append, length}
use Rattle.live_lanes.specs.Entered.{rows_seen}
use Rattle.live_lanes.proofs.Entering.{new-row}
use Rattle.live_lanes.proofs.table.LaneRanges.new.Goals as goal

pub lanes-init : goal.lanes-init
lanes-init c = record {
  lanes = ap length c.new-rows.ensures.items;
  seen = λ k b. ap (λ rows. rows_seen rows k b) c.new-rows.ensures.items;
}

pub lanes-preserved : goal.lanes-preserved
lanes-preserved c = record {
  lanes = grind (arith, length-append, c.in_ok-push.ensures.items, c.lanes.invariant.lanes);
  seen = new-row c.lanes.rows.items c.push.new.self.items c.new.result c.in_ok-push.ensures.items c.new.ensures c.lanes.invariant.seen;
}
