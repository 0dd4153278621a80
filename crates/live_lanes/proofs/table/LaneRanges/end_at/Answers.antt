use Rattle.std.proofs.Common.{◌≡◌, Some, sym, ap, ◌∙◌}
use Rattle.std.specs.Prelude.{slice_get}
use Rattle.std.proofs.lemmas.Option.{slice_get-get_or}
use Rattle.live_lanes.specs.Graph.{is_live}
use Rattle.live_lanes.specs.Table.{rises_from}
use Rattle.live_lanes.specs.Entered.{cells_of}
use Rattle.live_lanes.proofs.Lasting.{cell-in, cell-none, cell-piece, dead-cell, live-cell}
use Rattle.live_lanes.proofs.table.LaneRanges.end_at.Goals as goal

pub returns-in_default-piece : goal.returns-in_default-piece
returns-in_default-piece c = λ r.
    let rows = c.args.self.now.rows.items in
    let cell = c.in-Some.cell.now in
    let h = c.in-Some.ensures.lookup in
    let there : slice_get (cells_of rows c.args.lane) c.args.place ≡ Some cell = ap (λ cs. slice_get cs c.args.place) (sym c.cells.ensures) ∙ slice_get-get_or c.cells.result.now c.args.place cell h.3.0 ∙ ap Some (sym h.1) in
    dead-cell c.args.order.now.slots c.args.flow.now rows c.args.lane c.args.place c.args.index cell there (ap is_live (cell-none cell c.args.index c.in_default-piece.ensures))

pub returns-then-not-is_live : goal.returns-then-not-is_live
returns-then-not-is_live c = λ r.
    let rows = c.args.self.now.rows.items in
    let cell = c.in-Some.cell.now in
    let h = c.in-Some.ensures.lookup in
    let there : slice_get (cells_of rows c.args.lane) c.args.place ≡ Some cell = ap (λ cs. slice_get cs c.args.place) (sym c.cells.ensures) ∙ slice_get-get_or c.cells.result.now c.args.place cell h.3.0 ∙ ap Some (sym h.1) in
    let p = cell-piece cell c.args.index c.in-Some-piece.piece.now c.in-Some-piece.ensures in
    dead-cell c.args.order.now.slots c.args.flow.now rows c.args.lane c.args.place c.args.index cell there (ap is_live (sym p.0) ∙ sym c.is_live.ensures ∙ c.if-not-is_live.true)

pub returns : goal.returns
returns c = λ r.
    let rows = c.args.self.now.rows.items in
    let slots = c.args.order.now.slots in
    let cell = c.in-Some.cell.now in
    let h = c.in-Some.ensures.lookup in
    let there : slice_get (cells_of rows c.args.lane) c.args.place ≡ Some cell = ap (λ cs. slice_get cs c.args.place) (sym c.cells.ensures) ∙ slice_get-get_or c.cells.result.now c.args.place cell h.3.0 ∙ ap Some (sym h.1) in
    let rises = ap (λ v. rises_from slots 0 v.segments) (sym (cell-in rows c.args.lane c.args.place cell there)) ∙ r c.args.lane cell.block in
    c.end_of.ensures r rises ∙ live-cell slots c.args.flow.now rows c.args.lane c.args.place c.args.index cell there c.in-Some-piece.piece.now c.in-Some-piece.ensures (sym c.is_live.ensures ∙ c.if-not-is_live.false)
