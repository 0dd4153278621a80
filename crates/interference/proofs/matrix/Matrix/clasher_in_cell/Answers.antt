use Rattle.std.proofs.Common.{◌≡◌, ◌<◌, ◌≤◌, ◌+◌, List, [], ◌∷◌, ℕ, Option, None, true, false, sym, ap, ◌∙◌, subst, arith}
use Rattle.std.specs.Prelude.{not, nat_eq, slice_get, MatchOption}
use Rattle.live_lanes.specs.declared.row.Cell.{Cell}
use Rattle.live_lanes.specs.Entered.{cells_of, piece_count}
use Rattle.live_lanes.specs.Extents.{stretch_of}
use Rattle.live_lanes.proofs.Cells.{both}
use Rattle.interference.specs.Clashes.{Points, AreApart, held_of, is_taken, is_taken_by, is_taken_at, are_taken, some_cell_points}
use Rattle.interference.proofs.Points.{point_of, pieces_from, pieces-none, pieces-some, pieces-end, one-taken, step-way, clear-way, clear-point, clear-none, clear-cell, not-false, list-filled, list-holds, list-apart}
use Rattle.interference.proofs.matrix.Matrix.clasher_in_cell.Goals as goal
use Rattle.interference.proofs.matrix.Matrix.clasher_in_cell.Goals.{in-Some+in_default-other, in_default}

pub returns-in_err-list : goal.returns-in_err-list
returns-in_err-list c = λ ordered.
    let m = c.args.self.now in
    let slots = m.live.table.order.slots in
    let o : Option Cell = slice_get (cells_of m.live.table.rows.rows.items c.args.lane) c.args.place in
    let none : c.from_residual-in_err-list.result ≡ None = c.from_residual-in_err-list.ensures in
    subst (λ (r : Option ℕ). MatchOption r ((w : ℕ) → are_taken m c.args.v (some_cell_points slots c.args.unit o) w ≡ false) (λ w. are_taken m c.args.v (some_cell_points slots c.args.unit o) w ≡ true)) (sym none)
    (λ w. clear-cell m c.args.v w c.args.unit c.in_ok-block.block o c.in_ok-block.ensures c.in_err-list.ensures)

pub returns-in-Some-other : goal.returns-in-Some-other
returns-in-Some-other c = λ ordered.
    let m = c.args.self.now in
    let slots = m.live.table.order.slots in
    let o : Option Cell = slice_get (cells_of m.live.table.rows.rows.items c.args.lane) c.args.place in
    let i = c.pieces.index in
    let lt : i < piece_count o = let e : c.piece_count-index-end.result ≡ piece_count o = c.piece_count-index-end.ensures in omega arith in
    let rest : List Points = pieces_from slots c.args.unit o i in
    let more : List Points = pieces_from slots c.args.unit o (i + 1) in
    let s : Points = point_of slots c.args.unit c.in_ok-block.block c.in-Some.extent in
    let step : rest ≡ s ∷ more = pieces-some slots c.args.unit o i c.in_ok-block.block c.in-Some.extent lt (sym c.in-Some.ensures) (sym c.in_ok-block.ensures) in
    let eq : c.stretch-at.result ≡ stretch_of slots c.in-Some.extent = c.stretch-at.ensures ∙ ap (λ z. stretch_of z c.in-Some.extent) c.slots.ensures in
    let n = c.in-Some-other.w in
    let l = c.in_ok-list.list.now in
    let found = subst (λ z. AreApart z 0 (held_of l) → (nat_eq n c.args.v ≡ false) × (is_taken_by z (held_of l) n c.stretch-at.result ≡ true)) c.slots-in-Some.ensures (c.in-Some-other.ensures (list-filled m ordered c.args.unit c.in_ok-block.block l c.in_ok-list.ensures)) (list-apart m ordered c.args.unit c.in_ok-block.block l c.in_ok-list.ensures) in
    let by : is_taken_at m n s ≡ true = ap (λ hs. is_taken_by slots hs n (stretch_of slots c.in-Some.extent)) (sym (list-holds m c.args.unit c.in_ok-block.block l c.in_ok-list.ensures)) ∙ ap (λ z. is_taken_by slots (held_of l) n z) (sym eq) ∙ found.1 in
    sym (c.pieces.invariant ordered n) ∙ step-way m c.args.v n rest (s ∷ []) more step (one-taken m c.args.v n s ∙ both (not (nat_eq n c.args.v)) (is_taken_at m n s) (not-false (nat_eq n c.args.v) found.0) by)

pub pieces-preserved : goal.pieces-preserved
pieces-preserved c = λ ordered n.
    let m = c.args.self.now in
    let slots = m.live.table.order.slots in
    let o : Option Cell = slice_get (cells_of m.live.table.rows.rows.items c.args.lane) c.args.place in
    let i = c.pieces.index in
    let lt : i < piece_count o = let e : c.piece_count-index-end.result ≡ piece_count o = c.piece_count-index-end.ensures in omega arith in
    let rest : List Points = pieces_from slots c.args.unit o i in
    let more : List Points = pieces_from slots c.args.unit o (i + 1) in
    elim c.match-extent.branch [
      | in-Some+in_default-other w ↦
          let s : Points = point_of slots c.args.unit c.in_ok-block.block w.in-Some.extent in
          let step : rest ≡ s ∷ more = pieces-some slots c.args.unit o i c.in_ok-block.block w.in-Some.extent lt (sym w.in-Some.ensures) (sym c.in_ok-block.ensures) in
          let eq : w.stretch-at.result ≡ stretch_of slots w.in-Some.extent = w.stretch-at.ensures ∙ ap (λ z. stretch_of z w.in-Some.extent) w.slots.ensures in
          let l = c.in_ok-list.list.now in
          let none = subst (λ z. AreApart z 0 (held_of l) → is_taken z (held_of l) c.args.v w.stretch-at.result ≡ false) w.slots-in-Some.ensures (w.in_default-other.ensures (list-filled m ordered c.args.unit c.in_ok-block.block l c.in_ok-list.ensures)) (list-apart m ordered c.args.unit c.in_ok-block.block l c.in_ok-list.ensures) in
          let clear = ap (λ hs. is_taken slots hs c.args.v (stretch_of slots w.in-Some.extent)) (sym (list-holds m c.args.unit c.in_ok-block.block l c.in_ok-list.ensures)) ∙ ap (λ z. is_taken slots (held_of l) c.args.v z) (sym eq) ∙ none in
          sym (clear-way m c.args.v n rest (s ∷ []) more step (clear-point m c.args.v n s clear)) ∙ c.pieces.invariant ordered n
      | in_default w ↦ ap (λ ps. are_taken m c.args.v ps n) (sym (pieces-none slots c.args.unit o i lt (sym w.in_default.ensures))) ∙ c.pieces.invariant ordered n
    ]

pub returns : goal.returns
returns c = λ ordered n.
    let m = c.args.self.now in
    let slots = m.live.table.order.slots in
    let o : Option Cell = slice_get (cells_of m.live.table.rows.rows.items c.args.lane) c.args.place in
    let le : piece_count o ≤ c.pieces.index = let e : c.piece_count-index-end.result ≡ piece_count o = c.piece_count-index-end.ensures in omega arith in
    sym (c.pieces.invariant ordered n) ∙ ap (λ ps. are_taken m c.args.v ps n) (pieces-end slots c.args.unit o c.pieces.index le) ∙ clear-none m c.args.v n
