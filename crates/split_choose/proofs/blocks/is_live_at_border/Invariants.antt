use Rattle.std.proofs.Common.{◌≡◌, false, slice_get}
use Rattle.live_lanes.specs.Looks.{InOrder}
use Rattle.split_choose.specs.Blocks.{lane_at_border}
use Rattle.split_choose.proofs.Borders.{some_until}
use Rattle.split_choose.proofs.blocks.is_live_at_border.Given as goal

abbrev pub invariant-lanes : goal.invariant-lanes
invariant-lanes l = InOrder l.live.table → some_until (lane_at_border l.live.table l.live.func.blocks l.v) (slice_get l.live.table.lanes.ranges.items l.v) l.k ≡ false
