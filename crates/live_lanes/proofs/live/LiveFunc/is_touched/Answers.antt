use Rattle.std.proofs.Common.{◌∙◌}
use Rattle.live_lanes.specs.Touching.{touches_lane}
use Rattle.live_lanes.proofs.Touching.{range-lanes}
use Rattle.live_lanes.proofs.live.LiveFunc.is_touched.Goals as goal

pub returns : goal.returns
returns c = c.is_some_touched.ensures ∙ range-lanes (touches_lane c.args.self.now.table.rows.rows.items) c.args.self.now.table c.args.v c.of_range.result.first c.of_range.result.count c.of_range.ensures
