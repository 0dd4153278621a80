-- Rows whose cell at a place changes.
use Rattle.std.proofs.Common.{◌≡◌, ◌<◌, ◌≤◌, ◌∙◌, ℕ, Bool, true, false, cond, List, Some, length, get_or, set, refl, sym, ap, subst, vec_capacity, eqb-true, eq-eqb}
use Rattle.std.specs.Prelude.{nat_eq, slice_get}
use Rattle.std.proofs.lemmas.Option.{slice_get-get_or}
use Rattle.live_lanes.specs.declared.row.Cell.{Cell}
use Rattle.live_lanes.specs.declared.row.LaneRange.{LaneRange}
use Rattle.live_lanes.specs.Table.{Seen, seen, seen_in, seen_cell, find_cell, cell_room, descends}
use Rattle.live_lanes.specs.Entered.{rows_seen, cells_of}
use Rattle.live_lanes.proofs.Cells.{cell-seen, change-descends, change-seen, found-block, set-find}
use Rattle.live_lanes.proofs.Rows.{row-of, rows-set}
use Rattle.live_edits.specs.declared.cell_change.CellChange.{CellChange}
use Rattle.live_edits.specs.CellChanges.{seen_changed, fits_in}
use Rattle.live_edits.specs.Logged.{has_cell, room_of}
use Rattle.live_edits.specs.Changes.{ChangesRow, ChangesCell}
use Rattle.live_edits.proofs.ChangedRows.{same-cells, no-room-goes, cells-of, cell-changes, own-room}

-- the cell of a block stands at a place of a row
placed-row : (block : ℕ) (cs : List Cell) (place : ℕ) (x y : Cell) (change : Seen → Seen) → descends cs ≡ true → place < length cs → slice_get cs place ≡ find_cell block cs → x ≡ get_or cs place x → y.block ≡ x.block → vec_capacity x.segments ≤ vec_capacity y.segments → seen_cell y ≡ change (seen_cell x) → ChangesRow cs (set cs place y) block change
placed-row block cs place x y change s within there is same room new = record {
  seen = λ q. change-seen block cs place x y s within there is same change (seen_in cs) (λ p. refl) new q ∙ own q (nat_eq block q) refl;
  cells = same-cells cs place x y s within is same;
  rooms = no-room-goes cs place x y s within is same room;
}
  where
    own : (q : ℕ) (t : Bool) → nat_eq block q ≡ t → cond t (change (seen_in cs block)) (seen_in cs q) ≡ cond t (change (seen_in cs q)) (seen_in cs q)
    own q true g = ap (λ n. change (seen_in cs n)) (eqb-true block q g)
    own q false g = refl

-- a row of a lane
module _ (rows : List LaneRange) (lane block place : ℕ) (row : LaneRange) (h : lane < length rows) (is : row ≡ get_or rows lane row) (within : place < length (cells_of rows lane)) (there : slice_get (cells_of rows lane) place ≡ find_cell block (cells_of rows lane)) where
  own-cells : cells_of rows lane ≡ row.cells.items
  own-cells = cells-of rows lane row h is

  pub placed-within : place < length row.cells.items
  placed-within = subst (λ cs. place < length cs) own-cells within

  placed-there : slice_get row.cells.items place ≡ find_cell block row.cells.items
  placed-there = subst (λ cs. slice_get cs place ≡ find_cell block cs) own-cells there

  module _ (x y : Cell) (own : x ≡ get_or row.cells.items place x) (same : y.block ≡ x.block) where
    pub placed-descends : descends (set row.cells.items place y) ≡ true
    placed-descends = change-descends block row.cells.items place x y row.sorted placed-within placed-there own same

    pub placed-cell : (new : LaneRange) (change : Seen → Seen) → new.cells.items ≡ set row.cells.items place y → vec_capacity x.segments ≤ vec_capacity y.segments → seen_cell y ≡ change (seen_cell x) → has_cell rows lane block ≡ true → ChangesCell rows (set rows lane new) lane block change
    placed-cell new change cells room told has =
        cell-changes rows lane row h is new block change (λ e. subst (λ cs. ChangesRow row.cells.items cs block change) (sym cells) (placed-row block row.cells.items place x y change row.sorted placed-within placed-there own same room told)) has

    -- what is seen of the cell before, and of the changed one
    seen-before : rows_seen rows lane block ≡ seen_cell x
    seen-before = sym (cell-seen block row.cells.items place x placed-within placed-there own ∙ row-of rows lane block row h is)

    new-cell : find_cell block (set row.cells.items place y) ≡ Some y
    new-cell =
        let found : slice_get row.cells.items place ≡ Some x = slice_get-get_or row.cells.items place x placed-within ∙ ap Some (sym own) in
        let of-block = found-block block row.cells.items x (sym placed-there ∙ found) in
        set-find block row.cells.items place x y row.sorted found same ∙ ap (λ t. cond t (Some y) (find_cell block row.cells.items)) (ap (λ n. nat_eq n block) of-block ∙ eq-eqb block block refl)

    module _ (new : LaneRange) (cells : new.cells.items ≡ set row.cells.items place y) (back : CellChange) where
      pub placed-back : seen_changed back (seen_cell y) ≡ seen_cell x → seen_changed back (rows_seen (set rows lane new) lane block) ≡ rows_seen rows lane block
      placed-back undone =
          ap (seen_changed back) (rows-set rows lane lane block new h ∙ (ap (λ t. cond t (seen_in new.cells.items block) (rows_seen rows lane block)) (eq-eqb lane lane refl) ∙ (ap (λ cs. seen_in cs block) cells ∙ ap seen new-cell)))
          ∙ (undone ∙ sym seen-before)

      pub placed-fits : fits_in back (vec_capacity y.segments) ≡ true → fits_in back (room_of (set rows lane new) lane block) ≡ true
      placed-fits fits = ap (fits_in back) (own-room rows lane row h is new block ∙ (ap (λ cs. cell_room (find_cell block cs)) cells ∙ ap cell_room new-cell)) ∙ fits
