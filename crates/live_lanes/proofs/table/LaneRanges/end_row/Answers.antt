use Rattle.std.proofs.Common.{arith, refl, ap, ◌∙◌, ◌≡◌, ◌≤◌, length}
use Rattle.live_lanes.specs.Entered.{cells_of}
use Rattle.live_lanes.proofs.Gives.{all-rise, cells-none, cells-more, cells-all}
use Rattle.live_lanes.proofs.Marks.{keeps-none, keeps-both}
use Rattle.live_lanes.proofs.table.LaneRanges.end_row.Goals as goal

pub cells-init : goal.cells-init
cells-init c = record {
  keeps = keeps-none c.args.self.now.rows.items;
  blocks = λ l. refl;
  ended = λ r. cells-none c.args.order.now.slots c.args.flow.now c.args.self.now.rows.items c.args.lane;
}

pub cells-preserved : goal.cells-preserved
cells-preserved c =
    let old = c.args.self.now.rows.items in
    let mid = c.cells.self.rows.items in
    let new = c.end_cell.new.self.rows.items in
    record {
      keeps = keeps-both old mid new c.cells.invariant.keeps c.end_cell.ensures.keeps;
      blocks = λ l. c.end_cell.ensures.blocks l ∙ c.cells.invariant.blocks l;
      ended = λ r. cells-more c.args.order.now.slots c.args.flow.now old mid new c.args.lane c.cells.place c.cells.invariant.keeps c.cells.invariant.blocks (c.cells.invariant.ended r) (c.end_cell.ensures.ended (all-rise c.args.order.now.slots old mid c.cells.invariant.keeps.shapes r));
    }

pub returns-clause-ended : goal.returns-clause-ended
returns-clause-ended c = λ r.
    let long : length c.cells-place-end.result.now ≡ length (cells_of c.args.self.now.rows.items c.args.lane) = ap length c.cells-place-end.ensures in
    let all : length (cells_of c.args.self.now.rows.items c.args.lane) ≤ c.cells.place = omega (arith, long, c.cells-test.false) in
    cells-all c.args.order.now.slots c.args.flow.now c.args.self.now.rows.items c.cells.self.rows.items c.args.lane c.cells.place all (c.cells.invariant.ended r)
