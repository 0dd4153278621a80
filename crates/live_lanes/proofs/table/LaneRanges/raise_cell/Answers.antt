use Rattle.std.proofs.Common.{arith, refl, sym, ap, ◌∙◌, ◌≤◌}
use Rattle.std.specs.Prelude.{slice_get}
use Rattle.live_lanes.specs.Entered.{cells_of, piece_count}
use Rattle.live_lanes.proofs.Growth.{grew-refl}
use Rattle.live_lanes.proofs.Certainty.{pieces-more, pieces-all}
use Rattle.live_lanes.proofs.table.LaneRanges.raise_cell.Goals as goal

pub pieces-init : goal.pieces-init
pieces-init c = record {
  blocks = λ l. refl;
  raised = λ code slots flow t. record { grew = grew-refl code c.args.self.now.rows.items c.args.risen.now.items; done = λ b n e h. absurd (omega arith) };
}

pub pieces-preserved : goal.pieces-preserved
pieces-preserved c = record {
  blocks = λ l. c.in_ok-raise_piece.ensures.blocks l ∙ c.pieces.invariant.blocks l;
  raised = λ code slots flow t. pieces-more code slots flow c.args.self.now.rows.items c.pieces.self.rows.items c.raise_piece.new.self.rows.items c.args.lane c.args.place c.pieces.index c.args.risen.now.items c.pieces.risen.items c.raise_piece.new.risen.items t c.pieces.invariant.blocks (c.pieces.invariant.raised code slots flow t) c.in_ok-raise_piece.ensures.raised;
}

pub returns-clause-raised : goal.returns-clause-raised
returns-clause-raised c = λ code slots flow t.
    let all : piece_count (slice_get (cells_of c.args.self.now.rows.items c.args.lane) c.args.place) ≤ c.pieces.index = omega (arith, c.piece_count-index-end.ensures, c.pieces-test.false) in
    pieces-all code c.args.self.now.rows.items c.pieces.self.rows.items c.args.lane c.args.place c.pieces.index c.args.risen.now.items c.pieces.risen.items all (c.pieces.invariant.raised code slots flow t)
