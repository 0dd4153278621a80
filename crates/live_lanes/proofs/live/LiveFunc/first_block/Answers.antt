use Rattle.std.proofs.Common.{◌≤◌, arith}
use Rattle.std.specs.Prelude.{slice_get}
use Rattle.live_lanes.specs.Extents.{lanes_count}
use Rattle.live_lanes.specs.Spread.{HasPoints, LaneHasPoints}
use Rattle.live_lanes.proofs.Spread.{Below, first-same, lane-has, more-first, points-lane}
use Rattle.live_lanes.proofs.live.LiveFunc.first_block.Goals as goal

pub lanes-preserved : goal.lanes-preserved
lanes-preserved c = more-first (LaneHasPoints c.args.self.now.table c.args.v) c.lanes.k c.lanes.first c.first_block_of.result c.lesser_position-first.result c.lesser_position-first.ensures c.lanes.invariant c.first_block_of.ensures

pub returns : goal.returns
returns c =
    let x = c.args.self.now.table in
    let v = c.args.v in
    let all : lanes_count (slice_get x.lanes.ranges.items v) ≤ c.lanes.k = omega (arith, c.lane_count-k-end.ensures, c.lanes-test.false) in
    first-same (Below (LaneHasPoints x v) c.lanes.k) (HasPoints x v) (λ b z. lane-has x v z.0 b z.2) (λ b h. points-lane x v b c.lanes.k all h) c.lanes.first c.lanes.invariant
