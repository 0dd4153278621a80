use Rattle.std.specs.Prelude.{slice_get}
use Rattle.live_lanes.proofs.Extents.{same-count}
use Rattle.live_lanes.proofs.live.LiveFunc.lane_count.Goals as goal

pub returns : goal.returns
returns c = same-count c.of_range.result.first c.of_range.result.count (slice_get c.args.self.now.table.lanes.ranges.items c.args.v) c.of_range.ensures
