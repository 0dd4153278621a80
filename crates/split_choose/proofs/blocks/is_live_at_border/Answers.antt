use Rattle.std.proofs.Common.{◌≤◌, arith, slice_get}
use Rattle.live_lanes.specs.Extents.{lanes_count}
use Rattle.split_choose.specs.Blocks.{lane_at_border}
use Rattle.split_choose.proofs.Borders.{lane_next, lane_found, lane_none, none_yet}
use Rattle.split_choose.proofs.blocks.is_live_at_border.Goals as goal

pub lanes-init : goal.lanes-init
lanes-init c order = none_yet (lane_at_border c.args.live.now.table c.args.live.now.func.blocks c.args.v) (slice_get c.args.live.now.table.lanes.ranges.items c.args.v)

pub returns-then-is_some_lane_at_border : goal.returns-then-is_some_lane_at_border
returns-then-is_some_lane_at_border c order = lane_found (lane_at_border c.args.live.now.table c.args.live.now.func.blocks c.args.v) (slice_get c.args.live.now.table.lanes.ranges.items c.args.v) c.lanes.k _ (c.is_some_lane_at_border.ensures order) c.if-is_some_lane_at_border.true

pub lanes-preserved : goal.lanes-preserved
lanes-preserved c order = lane_next (lane_at_border c.args.live.now.table c.args.live.now.func.blocks c.args.v) (slice_get c.args.live.now.table.lanes.ranges.items c.args.v) c.lanes.k _ (c.is_some_lane_at_border.ensures order) c.if-is_some_lane_at_border.false (c.lanes.invariant order) (omega arith)

pub returns : goal.returns
returns c order =
    let h : lanes_count (slice_get c.args.live.now.table.lanes.ranges.items c.args.v) ≤ c.lanes.k = omega arith in
    let l : c.lanes.k ≤ lanes_count (slice_get c.args.live.now.table.lanes.ranges.items c.args.v) = omega arith in
    lane_none (lane_at_border c.args.live.now.table c.args.live.now.func.blocks c.args.v) (slice_get c.args.live.now.table.lanes.ranges.items c.args.v) c.lanes.k h l (c.lanes.invariant order)
