use Rattle.std.proofs.Common.{◌≡◌, ◌<◌, ◌≤◌, ◌+◌, ◌*◌, List, [], ◌∷◌, Option, true, false, ◌&&◌, length, sym, ap, ◌∙◌, subst, arith}
use Rattle.std.specs.Prelude.{not, ◌||◌, nat_eq, slice_get}
use Rattle.std.specs.List.{list_any}
use Rattle.live_lanes.specs.declared.row.Cell.{Cell}
use Rattle.live_lanes.specs.declared.ask.extent.Stretch.{Stretch}
use Rattle.live_lanes.specs.Entered.{cells_of, piece_count}
use Rattle.live_lanes.specs.Extents.{stretch_of, is_met}
use Rattle.interference.specs.Clashes.{Points, holds, is_taken_by, is_fixed_at, are_taken, some_cell_points}
use Rattle.interference.specs.Marked.{is_marked}
use Rattle.interference.proofs.Parts.{extent-le}
use Rattle.interference.proofs.Points.{point_of, pieces_from, pieces-none, pieces-some, step-none, step-found, one-of, step-marked, one-taken}
use Rattle.interference.proofs.matrix.Matrix.mark_cell.Goals as goal
use Rattle.interference.proofs.matrix.Matrix.mark_cell.Goals.{in-Some-extent+else-meets, in_default-extent}

pub returns-then-meets-clause-fixed : goal.returns-then-meets-clause-fixed
returns-then-meets-clause-fixed c = λ ordered.
    let m = c.args.self.now in
    let slots = m.live.table.order.slots in
    let o : Option Cell = slice_get (cells_of m.live.table.rows.rows.items c.args.lane) c.args.place in
    let i = c.pieces.index in
    let lt : i < piece_count o = let e : c.piece_count-index-end.result ≡ piece_count o = c.piece_count-index-end.ensures in omega arith in
    let rest : List Points = pieces_from slots c.args.unit o i in
    let more : List Points = pieces_from slots c.args.unit o (i + 1) in
    let s : Points = point_of slots c.args.unit c.in-Some.block c.in-Some-extent.extent in
    let step : rest ≡ s ∷ more = pieces-some slots c.args.unit o i c.in-Some.block c.in-Some-extent.extent lt (sym c.in-Some-extent.ensures) (sym c.in-Some.ensures) in
    let eq : c.stretch-at.result ≡ stretch_of slots c.in-Some-extent.extent = c.stretch-at.ensures ∙ ap (λ z. stretch_of z c.in-Some-extent.extent) c.slots.ensures in
    let le : c.stretch-at.result.first ≤ c.stretch-at.result.last = subst (λ (z : Stretch). z.first ≤ z.last) (sym eq) (extent-le slots c.in-Some-extent.extent) in
    let fixed : is_fixed_at m s ≡ true = sym (ap (λ z. is_met m.live.table c.args.unit c.in-Some.block z) eq) ∙ sym (c.meets.ensures ordered.table le) ∙ c.if-meets.true in
    ap not (step-found (is_fixed_at m) rest (s ∷ []) more (list_any (is_fixed_at m) (some_cell_points slots c.args.unit o)) step (one-of (is_fixed_at m) s ∙ fixed) (c.pieces.invariant.fixed ordered))

pub pieces-preserved : goal.pieces-preserved
pieces-preserved c =
    let m = c.args.self.now in
    let slots = m.live.table.order.slots in
    let o : Option Cell = slice_get (cells_of m.live.table.rows.rows.items c.args.lane) c.args.place in
    let i = c.pieces.index in
    let lt : i < piece_count o = let e : c.piece_count-index-end.result ≡ piece_count o = c.piece_count-index-end.ensures in omega arith in
    let rest : List Points = pieces_from slots c.args.unit o i in
    let more : List Points = pieces_from slots c.args.unit o (i + 1) in
    record {
      room = elim c.match-extent.branch [
        | in-Some-extent+else-meets w ↦ ap (λ x. length x.words.items) w.marks-is ∙ w.mark_held.ensures.room ∙ c.pieces.invariant.room
        | in_default-extent w ↦ ap (λ x. length x.words.items) w.marks-is ∙ c.pieces.invariant.room
      ];
      fixed = λ ordered. elim c.match-extent.branch [
        | in-Some-extent+else-meets w ↦
            let s : Points = point_of slots c.args.unit c.in-Some.block w.in-Some-extent.extent in
            let step : rest ≡ s ∷ more = pieces-some slots c.args.unit o i c.in-Some.block w.in-Some-extent.extent lt (sym w.in-Some-extent.ensures) (sym c.in-Some.ensures) in
            let eq : w.stretch-at.result ≡ stretch_of slots w.in-Some-extent.extent = w.stretch-at.ensures ∙ ap (λ z. stretch_of z w.in-Some-extent.extent) w.slots.ensures in
            let le : w.stretch-at.result.first ≤ w.stretch-at.result.last = subst (λ (z : Stretch). z.first ≤ z.last) (sym eq) (extent-le slots w.in-Some-extent.extent) in
            let fixed : is_fixed_at m s ≡ false = sym (ap (λ z. is_met m.live.table c.args.unit c.in-Some.block z) eq) ∙ sym (w.meets.ensures ordered.table le) ∙ w.if-meets.false in
            step-none (is_fixed_at m) rest (s ∷ []) more (list_any (is_fixed_at m) (some_cell_points slots c.args.unit o)) step (one-of (is_fixed_at m) s ∙ fixed) (c.pieces.invariant.fixed ordered)
        | in_default-extent w ↦ ap (list_any (is_fixed_at m)) (sym (pieces-none slots c.args.unit o i lt (sym w.in_default-extent.ensures))) ∙ c.pieces.invariant.fixed ordered
      ];
      marked = λ ordered n low. elim c.match-extent.branch [
        | in-Some-extent+else-meets w ↦
            let s : Points = point_of slots c.args.unit c.in-Some.block w.in-Some-extent.extent in
            let step : rest ≡ s ∷ more = pieces-some slots c.args.unit o i c.in-Some.block w.in-Some-extent.extent lt (sym w.in-Some-extent.ensures) (sym c.in-Some.ensures) in
            let eq : w.stretch-at.result ≡ stretch_of slots w.in-Some-extent.extent = w.stretch-at.ensures ∙ ap (λ z. stretch_of z w.in-Some-extent.extent) w.slots.ensures in
            let le : w.stretch-at.result.first ≤ w.stretch-at.result.last = subst (λ (z : Stretch). z.first ≤ z.last) (sym eq) (extent-le slots w.in-Some-extent.extent) in
            let new : is_marked w.mark_held.new.marks.words.items n ≡ (are_taken m c.args.v (s ∷ []) n || is_marked c.pieces.marks.words.items n) =
            w.mark_held.ensures.marked ordered n (subst (λ x. n < x * 64) (sym c.pieces.invariant.room) low)
            ∙ ap (λ z. (not (nat_eq n c.args.v) && is_taken_by slots (holds m c.args.unit c.in-Some.block) n z) || is_marked c.pieces.marks.words.items n) eq
            ∙ ap (λ b. b || is_marked c.pieces.marks.words.items n) (sym (one-taken m c.args.v n s)) in
            step-marked m c.args.v n rest (s ∷ []) more (is_marked c.pieces.marks.words.items n) (is_marked c.match-extent.marks.words.items n) (are_taken m c.args.v (some_cell_points slots c.args.unit o) n || is_marked c.args.marks.now.words.items n) step
            (ap (λ x. is_marked x.words.items n) w.marks-is ∙ new) (c.pieces.invariant.marked ordered n low)
        | in_default-extent w ↦
            ap (λ ps. are_taken m c.args.v ps n || is_marked c.match-extent.marks.words.items n) (sym (pieces-none slots c.args.unit o i lt (sym w.in_default-extent.ensures)))
            ∙ ap (λ x. are_taken m c.args.v rest n || is_marked x.words.items n) w.marks-is ∙ c.pieces.invariant.marked ordered n low
      ];
    }
