use Rattle.std.proofs.Common.{arith, refl, sym, ap, ◌∙◌, ◌≡◌, ◌≤◌, length}
use Rattle.live_lanes.specs.Entered.{cells_of}
use Rattle.live_lanes.proofs.Growth.{grew-refl}
use Rattle.live_lanes.proofs.Certainty.{cells-more, cells-all}
use Rattle.live_lanes.proofs.table.LaneRanges.raise_row.Goals as goal

pub places-init : goal.places-init
places-init c = record {
  blocks = λ l. refl;
  raised = λ code slots flow t. record { grew = grew-refl code c.args.self.now.rows.items c.args.risen.now.items; done = λ p b n h. absurd (omega arith) };
}

pub places-preserved : goal.places-preserved
places-preserved c = record {
  blocks = λ l. c.in_ok-raise_cell.ensures.blocks l ∙ c.places.invariant.blocks l;
  raised = λ code slots flow t. cells-more code slots flow c.args.self.now.rows.items c.places.self.rows.items c.raise_cell.new.self.rows.items c.args.lane c.places.place c.args.risen.now.items c.places.risen.items c.raise_cell.new.risen.items t c.places.invariant.blocks (c.places.invariant.raised code slots flow t) c.in_ok-raise_cell.ensures.raised;
}

pub returns : goal.returns
returns c = λ code slots flow t.
    let long : length c.cells-place-end.result.now ≡ length (cells_of c.args.self.now.rows.items c.args.lane) = ap length c.cells-place-end.ensures in
    let all : length (cells_of c.args.self.now.rows.items c.args.lane) ≤ c.places.place = omega (arith, long, c.places-test.false) in
    cells-all code c.args.self.now.rows.items c.places.self.rows.items c.args.lane c.places.place c.args.risen.now.items c.places.risen.items all (c.places.invariant.raised code slots flow t)
