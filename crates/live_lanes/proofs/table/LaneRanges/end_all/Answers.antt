use Rattle.std.proofs.Common.{arith, ◌≤◌, length}
use Rattle.live_lanes.proofs.Gives.{all-rise, lanes-none, lanes-more, lanes-all}
use Rattle.live_lanes.proofs.Marks.{keeps-none, keeps-both}
use Rattle.live_lanes.proofs.table.LaneRanges.end_all.Goals as goal

pub rows-init : goal.rows-init
rows-init c = record {
  keeps = keeps-none c.args.self.now.rows.items;
  ended = λ r. lanes-none c.args.order.now.slots c.args.flow.now c.args.self.now.rows.items;
}

pub rows-preserved : goal.rows-preserved
rows-preserved c =
    let old = c.args.self.now.rows.items in
    let mid = c.rows.self.rows.items in
    let new = c.end_row.new.self.rows.items in
    record {
      keeps = keeps-both old mid new c.rows.invariant.keeps c.end_row.ensures.keeps;
      ended = λ r. lanes-more c.args.order.now.slots c.args.flow.now old mid new c.rows.lane c.rows.invariant.keeps (c.rows.invariant.ended r) (c.end_row.ensures.ended (all-rise c.args.order.now.slots old mid c.rows.invariant.keeps.shapes r));
    }

pub returns-clause-ended : goal.returns-clause-ended
returns-clause-ended c = λ r few.
    let all : length c.args.self.now.rows.items ≤ c.rows.lane = omega (arith, c.lane_count-lane-end.ensures few, c.rows-test.false) in
    lanes-all c.args.order.now.slots c.args.flow.now c.args.self.now.rows.items c.rows.self.rows.items c.rows.lane all (c.rows.invariant.ended r)
