use Rattle.std.proofs.Common.{arith, refl, ◌∙◌, ◌≤◌}
use Rattle.std.specs.Prelude.{slice_get}
use Rattle.live_lanes.specs.Entered.{cells_of, piece_count}
use Rattle.live_lanes.proofs.Gives.{all-rise, ended-none, ended-more, ended-all}
use Rattle.live_lanes.proofs.Marks.{keeps-none, keeps-both}
use Rattle.live_lanes.proofs.table.LaneRanges.end_cell.Goals as goal

pub pieces-init : goal.pieces-init
pieces-init c = record {
  keeps = keeps-none c.args.self.now.rows.items;
  blocks = λ l. refl;
  ended = λ r. ended-none c.args.order.now.slots c.args.flow.now c.args.self.now.rows.items c.args.lane c.args.place;
}

pub pieces-preserved : goal.pieces-preserved
pieces-preserved c =
    let old = c.args.self.now.rows.items in
    let mid = c.pieces.self.rows.items in
    let new = c.set_end.new.self.rows.items in
    record {
      keeps = keeps-both old mid new c.pieces.invariant.keeps c.set_end.ensures.keeps;
      blocks = λ l. c.set_end.ensures.blocks l ∙ c.pieces.invariant.blocks l;
      ended = λ r. ended-more c.args.order.now.slots c.args.flow.now old mid new c.args.lane c.args.place c.pieces.index c.end_at-end.result c.pieces.invariant.keeps c.pieces.invariant.blocks (c.pieces.invariant.ended r) (c.end_at-end.ensures (all-rise c.args.order.now.slots old mid c.pieces.invariant.keeps.shapes r)) c.set_end.ensures.set;
    }

pub returns-clause-ended : goal.returns-clause-ended
returns-clause-ended c = λ r.
    let all : piece_count (slice_get (cells_of c.args.self.now.rows.items c.args.lane) c.args.place) ≤ c.pieces.index = omega (arith, c.piece_count-index-end.ensures, c.pieces-test.false) in
    ended-all c.args.order.now.slots c.args.flow.now c.args.self.now.rows.items c.pieces.self.rows.items c.args.lane c.args.place c.pieces.index all (c.pieces.invariant.ended r)
