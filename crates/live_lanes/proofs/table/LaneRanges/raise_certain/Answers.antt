use Rattle.std.proofs.Common.{arith, ◌≤◌, length, []}
use Rattle.live_lanes.proofs.Growth.{grew-refl}
use Rattle.live_lanes.proofs.Certainty.{lanes-more, lanes-all}
use Rattle.live_lanes.proofs.table.LaneRanges.raise_certain.Goals as goal

pub lanes-preserved : goal.lanes-preserved
lanes-preserved c = λ code slots flow t.
    lanes-more code slots flow c.args.self.now.rows.items c.lanes.self.rows.items c.raise_row.new.self.rows.items c.lanes.lane [] c.lanes.risen.items c.raise_row.new.risen.items t (c.lanes.invariant code slots flow t) c.in_ok-raise_row.ensures

pub returns : goal.returns
returns c = λ code slots flow t.
    let few = t.few in
    let all : length c.args.self.now.rows.items ≤ c.lanes.lane = omega (arith, c.lane_count-lane-end.ensures few, c.lanes-test.false) in
    lanes-all code c.args.self.now.rows.items c.lanes.self.rows.items c.lanes.lane [] c.lanes.risen.items all (c.lanes.invariant code slots flow t)
