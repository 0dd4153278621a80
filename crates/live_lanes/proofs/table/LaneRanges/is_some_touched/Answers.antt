use Rattle.std.proofs.Common.{◌+◌, ◌∙◌, refl, sym, arith}
use Rattle.live_lanes.specs.Touching.{touches_lane}
use Rattle.live_lanes.proofs.Touching.{lane-found, lane-missed, lanes-missed}
use Rattle.live_lanes.proofs.table.LaneRanges.is_some_touched.Goals as goal

pub lanes-preserved : goal.lanes-preserved
lanes-preserved c = lane-missed (touches_lane c.args.self.now.rows.items) c.args.own.first c.lanes.k (c.args.own.first + c.lanes.k) refl (sym c.is_touched.ensures ∙ c.if-is_touched.false) c.lanes.invariant

pub returns-then-is_touched : goal.returns-then-is_touched
returns-then-is_touched c = lane-found (touches_lane c.args.self.now.rows.items) c.args.own.first c.lanes.k (c.args.own.first + c.lanes.k) c.args.own.count (omega arith) refl (sym c.is_touched.ensures ∙ c.if-is_touched.true)

pub returns : goal.returns
returns c = lanes-missed (touches_lane c.args.self.now.rows.items) c.args.own.first c.lanes.k c.args.own.count (omega arith) (omega arith) c.lanes.invariant
