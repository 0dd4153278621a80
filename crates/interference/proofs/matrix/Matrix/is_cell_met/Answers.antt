use Rattle.std.proofs.Common.{◌≡◌, ◌<◌, ◌≤◌, ◌+◌, List, [], ◌∷◌, Option, true, false, sym, ap, ◌∙◌, subst, arith}
use Rattle.std.specs.Prelude.{slice_get}
use Rattle.std.specs.List.{list_any}
use Rattle.live_lanes.specs.declared.row.Cell.{Cell}
use Rattle.live_lanes.specs.declared.ask.extent.Stretch.{Stretch}
use Rattle.live_lanes.specs.Entered.{cells_of, piece_count}
use Rattle.live_lanes.specs.Extents.{stretch_of}
use Rattle.interference.specs.Clashes.{Points, is_held, is_held_at, some_cell_points}
use Rattle.interference.proofs.Parts.{extent-le}
use Rattle.interference.proofs.Points.{point_of, pieces_from, pieces-none, pieces-some, step-none, step-found, one-of}
use Rattle.interference.proofs.matrix.Matrix.is_cell_met.Goals as goal
use Rattle.interference.proofs.matrix.Matrix.is_cell_met.Goals.{in-Some-extent+else-is_held, in_default-extent}

pub returns-then-is_held : goal.returns-then-is_held
returns-then-is_held c = λ ordered.
    let m = c.args.self.now in
    let slots = m.live.table.order.slots in
    let o : Option Cell = slice_get (cells_of m.live.table.rows.rows.items c.args.lane) c.args.place in
    let i = c.pieces.index in
    let lt : i < piece_count o = let e : c.piece_count-index-end.result ≡ piece_count o = c.piece_count-index-end.ensures in omega arith in
    let rest : List Points = pieces_from slots c.args.unit o i in
    let more : List Points = pieces_from slots c.args.unit o (i + 1) in
    let s : Points = point_of slots c.args.unit c.in-Some.block c.in-Some-extent.extent in
    let step : rest ≡ s ∷ more = pieces-some slots c.args.unit o i c.in-Some.block c.in-Some-extent.extent lt (sym c.in-Some-extent.ensures) (sym c.in-Some.ensures) in
    let eq : c.stretch.result ≡ stretch_of slots c.in-Some-extent.extent = c.stretch.ensures ∙ ap (λ z. stretch_of z c.in-Some-extent.extent) c.slots.ensures in
    let le : c.stretch.result.first ≤ c.stretch.result.last = subst (λ (z : Stretch). z.first ≤ z.last) (sym eq) (extent-le slots c.in-Some-extent.extent) in
    let held : is_held_at m c.args.v s ≡ true = sym (ap (λ z. is_held m c.args.unit c.args.v c.in-Some.block z) eq) ∙ sym (c.is_held.ensures ordered le) ∙ c.if-is_held.true in
    step-found (is_held_at m c.args.v) rest (s ∷ []) more (list_any (is_held_at m c.args.v) (some_cell_points slots c.args.unit o)) step (one-of (is_held_at m c.args.v) s ∙ held) (c.pieces.invariant ordered)

pub pieces-preserved : goal.pieces-preserved
pieces-preserved c = λ ordered.
    let m = c.args.self.now in
    let slots = m.live.table.order.slots in
    let o : Option Cell = slice_get (cells_of m.live.table.rows.rows.items c.args.lane) c.args.place in
    let i = c.pieces.index in
    let lt : i < piece_count o = let e : c.piece_count-index-end.result ≡ piece_count o = c.piece_count-index-end.ensures in omega arith in
    let rest : List Points = pieces_from slots c.args.unit o i in
    let more : List Points = pieces_from slots c.args.unit o (i + 1) in
    elim c.match-extent.branch [
      | in-Some-extent+else-is_held w ↦
          let s : Points = point_of slots c.args.unit c.in-Some.block w.in-Some-extent.extent in
          let step : rest ≡ s ∷ more = pieces-some slots c.args.unit o i c.in-Some.block w.in-Some-extent.extent lt (sym w.in-Some-extent.ensures) (sym c.in-Some.ensures) in
          let eq : w.stretch.result ≡ stretch_of slots w.in-Some-extent.extent = w.stretch.ensures ∙ ap (λ z. stretch_of z w.in-Some-extent.extent) w.slots.ensures in
          let le : w.stretch.result.first ≤ w.stretch.result.last = subst (λ (z : Stretch). z.first ≤ z.last) (sym eq) (extent-le slots w.in-Some-extent.extent) in
          let held : is_held_at m c.args.v s ≡ false = sym (ap (λ z. is_held m c.args.unit c.args.v c.in-Some.block z) eq) ∙ sym (w.is_held.ensures ordered le) ∙ w.if-is_held.false in
          step-none (is_held_at m c.args.v) rest (s ∷ []) more (list_any (is_held_at m c.args.v) (some_cell_points slots c.args.unit o)) step (one-of (is_held_at m c.args.v) s ∙ held) (c.pieces.invariant ordered)
      | in_default-extent w ↦ ap (list_any (is_held_at m c.args.v)) (sym (pieces-none slots c.args.unit o i lt (sym w.in_default-extent.ensures))) ∙ c.pieces.invariant ordered
    ]
