use Rattle.std.proofs.Common.{◌≡◌, ◌<◌, ◌≤◌, ◌+◌, List, [], ◌∷◌, Option, true, false, sym, ap, ◌∙◌, subst, arith}
use Rattle.std.specs.Prelude.{slice_get}
use Rattle.std.specs.List.{list_any}
use Rattle.live_lanes.specs.declared.row.Cell.{Cell}
use Rattle.live_lanes.specs.declared.ask.extent.Stretch.{Stretch}
use Rattle.live_lanes.specs.Entered.{cells_of, piece_count}
use Rattle.live_lanes.specs.Extents.{stretch_of, is_met}
use Rattle.interference.specs.Clashes.{Points}
use Rattle.interference.proofs.Parts.{extent-le}
use Rattle.interference.proofs.Points.{point_of, pieces_from, pieces-none, pieces-some, step-none, step-found, one-of}
use Rattle.slot_colour.specs.Clashes.{is_met_at, is_met_in}
use Rattle.slot_colour.proofs.clashes.is_met_in.Goals as goal
use Rattle.slot_colour.proofs.clashes.is_met_in.Goals.{in-Some-extent+else-meets, in_default-extent}

pub returns-then-meets : goal.returns-then-meets
returns-then-meets c = λ ordered.
    let x = c.args.live.now.table in
    let slots = x.order.slots in
    let o : Option Cell = slice_get (cells_of x.rows.rows.items c.args.one) c.args.place in
    let i = c.pieces.index in
    let lt : i < piece_count o = let e : c.piece_count-index-end.result ≡ piece_count o = c.piece_count-index-end.ensures in omega arith in
    let rest : List Points = pieces_from slots c.args.other o i in
    let more : List Points = pieces_from slots c.args.other o (i + 1) in
    let s : Points = point_of slots c.args.other c.in-Some.block c.in-Some-extent.extent in
    let step : rest ≡ s ∷ more = pieces-some slots c.args.other o i c.in-Some.block c.in-Some-extent.extent lt (sym c.in-Some-extent.ensures) (sym c.in-Some.ensures) in
    let eq : c.stretch.result ≡ stretch_of slots c.in-Some-extent.extent = c.stretch.ensures ∙ ap (λ z. stretch_of z c.in-Some-extent.extent) c.slots.ensures in
    let le : c.stretch.result.first ≤ c.stretch.result.last = subst (λ (z : Stretch). z.first ≤ z.last) (sym eq) (extent-le slots c.in-Some-extent.extent) in
    let held : is_met_at x c.args.other s ≡ true = sym (ap (λ z. is_met x c.args.other c.in-Some.block z) eq) ∙ sym (c.meets.ensures ordered le) ∙ c.if-meets.true in
    step-found (is_met_at x c.args.other) rest (s ∷ []) more (is_met_in x c.args.other o) step (one-of (is_met_at x c.args.other) s ∙ held) (c.pieces.invariant ordered)

pub pieces-preserved : goal.pieces-preserved
pieces-preserved c = λ ordered.
    let x = c.args.live.now.table in
    let slots = x.order.slots in
    let o : Option Cell = slice_get (cells_of x.rows.rows.items c.args.one) c.args.place in
    let i = c.pieces.index in
    let lt : i < piece_count o = let e : c.piece_count-index-end.result ≡ piece_count o = c.piece_count-index-end.ensures in omega arith in
    let rest : List Points = pieces_from slots c.args.other o i in
    let more : List Points = pieces_from slots c.args.other o (i + 1) in
    elim c.match-extent.branch [
      | in-Some-extent+else-meets w ↦
          let s : Points = point_of slots c.args.other c.in-Some.block w.in-Some-extent.extent in
          let step : rest ≡ s ∷ more = pieces-some slots c.args.other o i c.in-Some.block w.in-Some-extent.extent lt (sym w.in-Some-extent.ensures) (sym c.in-Some.ensures) in
          let eq : w.stretch.result ≡ stretch_of slots w.in-Some-extent.extent = w.stretch.ensures ∙ ap (λ z. stretch_of z w.in-Some-extent.extent) w.slots.ensures in
          let le : w.stretch.result.first ≤ w.stretch.result.last = subst (λ (z : Stretch). z.first ≤ z.last) (sym eq) (extent-le slots w.in-Some-extent.extent) in
          let held : is_met_at x c.args.other s ≡ false = sym (ap (λ z. is_met x c.args.other c.in-Some.block z) eq) ∙ sym (w.meets.ensures ordered le) ∙ w.if-meets.false in
          step-none (is_met_at x c.args.other) rest (s ∷ []) more (is_met_in x c.args.other o) step (one-of (is_met_at x c.args.other) s ∙ held) (c.pieces.invariant ordered)
      | in_default-extent w ↦ ap (list_any (is_met_at x c.args.other)) (sym (pieces-none slots c.args.other o i lt (sym w.in_default-extent.ensures))) ∙ c.pieces.invariant ordered
    ]
