-- Rows of which one cell changes.
use Rattle.std.proofs.Common.{◌≡◌, ◌<◌, ◌≤◌, ℕ, Bool, true, false, cond, ◌&&◌, length, List, [], ◌⊎◌, inl, inr, Option, None, Some, refl, sym, ap, ◌∙◌, subst, arith, eqb-true, eq-eqb, get_or, set, length-set, vec_capacity}
use Rattle.std.specs.Prelude.{nat_eq, slice_get, is_some, IfOk, Result}
use Rattle.std.specs.declared.result.Result.TheVariants as results
use Rattle.std.proofs.lemmas.Option.{slice_get-get_or, slice_get_cases}
use Rattle.live_lanes.specs.declared.row.Cell.{Cell}
use Rattle.live_lanes.specs.declared.row.LaneRange.{LaneRange}
use Rattle.live_lanes.specs.Table.{Seen, seen, seen_in, seen_cell, find_cell, cell_room, descends, is_before, leading}
use Rattle.live_lanes.specs.Entered.{rows_seen, cells_of}
use Rattle.live_lanes.proofs.Cells.{found-block, is-found, there-found, set-descends, set-find, change-seen, cell-seen}
use Rattle.live_lanes.proofs.Rows.{get-set, rows-set, row-of}
use Rattle.live_edits.specs.declared.cell_change.CellChange.{CellChange}
use Rattle.live_edits.specs.CellChanges.{seen_changed, fits_in}
use Rattle.live_edits.specs.Logged.{has_cell, room_of}
use Rattle.live_edits.specs.Changes.{ChangesRow, ChangesCell}

-- the cell at a place is another one of its block
module _ (cs : List Cell) (at : ℕ) (x y : Cell) (s : descends cs ≡ true) (h : at < length cs) (is : x ≡ get_or cs at x) (block : y.block ≡ x.block) where
  found : slice_get cs at ≡ Some x
  found = slice_get-get_or cs at x h ∙ ap Some (sym is)

  pub still-descends : descends (set cs at y) ≡ true
  still-descends = set-descends cs at x y s found block

  pub same-cells : (q : ℕ) → is_some (find_cell q (set cs at y)) ≡ is_some (find_cell q cs)
  same-cells q = ap is_some (set-find q cs at x y s found block) ∙ go (nat_eq x.block q) refl
    where
      go : (t : Bool) → nat_eq x.block q ≡ t → is_some (cond t (Some y) (find_cell q cs)) ≡ is_some (find_cell q cs)
      go true e = sym (ap is_some (subst (λ n. find_cell n cs ≡ Some x) (eqb-true x.block q e) (is-found cs at x s found)))
      go false e = refl

  pub no-room-goes : vec_capacity x.segments ≤ vec_capacity y.segments → (q : ℕ) → cell_room (find_cell q cs) ≤ cell_room (find_cell q (set cs at y))
  no-room-goes room q = go (nat_eq x.block q) refl (ap cell_room (set-find q cs at x y s found block))
    where
      go : (t : Bool) → nat_eq x.block q ≡ t → cell_room (find_cell q (set cs at y)) ≡ cell_room (cond t (Some y) (find_cell q cs)) → cell_room (find_cell q cs) ≤ cell_room (find_cell q (set cs at y))
      go true e f =
          let own : cell_room (find_cell q cs) ≡ vec_capacity x.segments = ap cell_room (subst (λ n. find_cell n cs ≡ Some x) (eqb-true x.block q e) (is-found cs at x s found)) in
          omega (arith, own, f, room)
      go false e f = omega (arith, f)

-- where a block has a cell, that is at the place where the search for it ends
pub block-there : (b : ℕ) (cs : List Cell) (at : ℕ) (x : Cell) → descends cs ≡ true → at ≡ leading (is_before b) cs → is_some (find_cell b cs) ≡ true → x ≡ get_or cs at x → (at < length cs) × (x.block ≡ b)
block-there b cs at x s e has is =
    let f = there-found b cs at s e has in
    (f.0, found-block b cs x (sym f.1 ∙ (slice_get-get_or cs at x f.0 ∙ ap Some (sym is))))

-- a cell that changes where its block's cell stands
pub row-changes-at : (b : ℕ) (cs : List Cell) (at : ℕ) (x y : Cell) (change : Seen → Seen) → descends cs ≡ true → at < length cs → slice_get cs at ≡ find_cell b cs → x ≡ get_or cs at x → y.block ≡ x.block → vec_capacity x.segments ≤ vec_capacity y.segments → seen_cell y ≡ change (seen_cell x) → ChangesRow cs (set cs at y) b change
row-changes-at b cs at x y change s h there is block room new = record {
  seen = λ q. change-seen b cs at x y s h there is block change (seen_in cs) (λ p. refl) new q ∙ own q (nat_eq b q) refl;
  cells = same-cells cs at x y s h is block;
  rooms = no-room-goes cs at x y s h is block room;
}
  where
    own : (q : ℕ) (t : Bool) → nat_eq b q ≡ t → cond t (change (seen_in cs b)) (seen_in cs q) ≡ cond t (change (seen_in cs q)) (seen_in cs q)
    own q true g = ap (λ n. change (seen_in cs n)) (eqb-true b q g)
    own q false g = refl

pub row-changes : (b : ℕ) (cs : List Cell) (at : ℕ) (x y : Cell) (change : Seen → Seen) → descends cs ≡ true → at ≡ leading (is_before b) cs → is_some (find_cell b cs) ≡ true → x ≡ get_or cs at x → y.block ≡ x.block → vec_capacity x.segments ≤ vec_capacity y.segments → seen_cell y ≡ change (seen_cell x) → ChangesRow cs (set cs at y) b change
row-changes b cs at x y change s e has is block room new =
    let f = there-found b cs at s e has in
    row-changes-at b cs at x y change s f.0 f.1 is block room new

-- what takes a change of the cell back takes that of the row back
module _ (b : ℕ) (cs : List Cell) (at : ℕ) (x : Cell) (s : descends cs ≡ true) (e : at ≡ leading (is_before b) cs) (has : is_some (find_cell b cs) ≡ true) (is : x ≡ get_or cs at x) where
  own-cell : find_cell b cs ≡ Some x
  own-cell = let f = there-found b cs at s e has in sym f.1 ∙ (slice_get-get_or cs at x f.0 ∙ ap Some (sym is))

  pub row-fits : (change : CellChange) → fits_in change (cell_room (find_cell b cs)) ≡ true → fits_in change (vec_capacity x.segments) ≡ true
  row-fits change h = ap (λ o. fits_in change (cell_room o)) (sym own-cell) ∙ h

  module _ (y : Cell) (block : y.block ≡ x.block) where
    new-cell : find_cell b (set cs at y) ≡ Some y
    new-cell =
        let f = there-found b cs at s e has in
        set-find b cs at x y s (found cs at x y s f.0 is block) block ∙ ap (λ t. cond t (Some y) (find_cell b cs)) (ap (λ n. nat_eq n b) (found-block b cs x own-cell) ∙ eq-eqb b b refl)

    pub row-back : {E : Type 0} (r : Result CellChange E) → IfOk r (λ back. seen_changed back (seen_cell y) ≡ seen_cell x) → IfOk r (λ back. fits_in back (vec_capacity y.segments) ≡ true) → IfOk r (λ back. (seen_changed back (seen_in (set cs at y) b) ≡ seen_in cs b) × (fits_in back (cell_room (find_cell b (set cs at y))) ≡ true))
    row-back (results.Ok back) h g = (ap (λ o. seen_changed back (seen o)) new-cell ∙ (h ∙ sym (ap seen own-cell)), ap (λ o. fits_in back (cell_room o)) new-cell ∙ g)
    row-back (results.Err z) h g = tt

pub not-past : (b : ℕ) (cs : List Cell) (at : ℕ) → descends cs ≡ true → at ≡ leading (is_before b) cs → length cs ≤ at → is_some (find_cell b cs) ≡ true → ⊥
not-past b cs at s e h has = let f = (there-found b cs at s e has).0 in omega arith

some-within : (cs : List Cell) (at : ℕ) → at < length cs → is_some (slice_get cs at) ≡ true
some-within cs at h = go (slice_get_cases cs at).1
  where
    go : ((z : Cell) × (at < length cs) × (slice_get cs at ≡ Some z) × (get_or cs at z ≡ z)) ⊎ ((length cs ≤ at) × (slice_get cs at ≡ None)) → is_some (slice_get cs at) ≡ true
    go (inl z) = ap is_some z.2
    go (inr z) = absurd (let w = z.0 in omega arith)

-- the cells of one of the rows
abbrev pub row_cells : Option LaneRange → List Cell
row_cells o = elim o [ None ↦ [] | Some r ↦ r.cells.items ]

module _ (rows : List LaneRange) (lane : ℕ) (x : LaneRange) (h : lane < length rows) (is : x ≡ get_or rows lane x) where
  pub cells-of : cells_of rows lane ≡ x.cells.items
  cells-of = ap row_cells (slice_get-get_or rows lane x h ∙ ap Some (sym is))

  pub cell-has : (b : ℕ) → has_cell rows lane b ≡ true → is_some (find_cell b x.cells.items) ≡ true
  cell-has b has = ap (λ cs. is_some (find_cell b cs)) (sym cells-of) ∙ has

  pub cell-fits : (b : ℕ) (change : CellChange) → fits_in change (room_of rows lane b) ≡ true → fits_in change (cell_room (find_cell b x.cells.items)) ≡ true
  cell-fits b change h = ap (λ cs. fits_in change (cell_room (find_cell b cs))) (sym cells-of) ∙ h

  -- the cell at the place of a block's is what is seen there
  module _ (block at : ℕ) (within : at < length (cells_of rows lane)) (there : slice_get (cells_of rows lane) at ≡ find_cell block (cells_of rows lane)) where
    pub own-within : at < length x.cells.items
    own-within = subst (λ cs. at < length cs) cells-of within

    own-there : slice_get x.cells.items at ≡ find_cell block x.cells.items
    own-there = subst (λ cs. slice_get cs at ≡ find_cell block cs) cells-of there

    pub own-seen : (c : Cell) → c ≡ get_or x.cells.items at c → seen_cell c ≡ rows_seen rows lane block
    own-seen c own = cell-seen block x.cells.items at c own-within own-there own ∙ row-of rows lane block x h is

    pub own-has : has_cell rows lane block ≡ true
    own-has = ap is_some (sym there) ∙ some-within (cells_of rows lane) at within

    pub own-descends : (c d : Cell) → descends x.cells.items ≡ true → c ≡ get_or x.cells.items at c → d.block ≡ c.block → descends (set x.cells.items at d) ≡ true
    own-descends c d s own kept = still-descends x.cells.items at c d s own-within own kept

    pub own-changes : (c d : Cell) (change : Seen → Seen) → descends x.cells.items ≡ true → c ≡ get_or x.cells.items at c → d.block ≡ c.block → vec_capacity c.segments ≤ vec_capacity d.segments → seen_cell d ≡ change (seen_cell c) → ChangesRow x.cells.items (set x.cells.items at d) block change
    own-changes c d change s own kept room new = row-changes-at block x.cells.items at c d change s own-within own-there own kept room new

  module _ (y : LaneRange) where
    set-has : (l b : ℕ) → has_cell (set rows lane y) l b ≡ cond (nat_eq lane l) (is_some (find_cell b y.cells.items)) (has_cell rows l b)
    set-has l b = ap (λ o. is_some (find_cell b (row_cells o))) (get-set rows lane l y h) ∙ go (nat_eq lane l)
      where
        go : (t : Bool) → is_some (find_cell b (row_cells (cond t (Some y) (slice_get rows l)))) ≡ cond t (is_some (find_cell b y.cells.items)) (has_cell rows l b)
        go true = refl
        go false = refl

    set-room : (l b : ℕ) → room_of (set rows lane y) l b ≡ cond (nat_eq lane l) (cell_room (find_cell b y.cells.items)) (room_of rows l b)
    set-room l b = ap (λ o. cell_room (find_cell b (row_cells o))) (get-set rows lane l y h) ∙ go (nat_eq lane l)
      where
        go : (t : Bool) → cell_room (find_cell b (row_cells (cond t (Some y) (slice_get rows l)))) ≡ cond t (cell_room (find_cell b y.cells.items)) (room_of rows l b)
        go true = refl
        go false = refl

    no-room : ((b : ℕ) → cell_room (find_cell b x.cells.items) ≤ cell_room (find_cell b y.cells.items)) → (l b : ℕ) → room_of rows l b ≤ room_of (set rows lane y) l b
    no-room f l b = go (nat_eq lane l) refl (set-room l b)
      where
        go : (t : Bool) → nat_eq lane l ≡ t → room_of (set rows lane y) l b ≡ cond t (cell_room (find_cell b y.cells.items)) (room_of rows l b) → room_of rows l b ≤ room_of (set rows lane y) l b
        go true e g =
            let own : room_of rows l b ≡ cell_room (find_cell b x.cells.items) = ap (λ k. room_of rows k b) (sym (eqb-true lane l e)) ∙ ap (λ cs. cell_room (find_cell b cs)) cells-of in
            let more = f b in
            omega (arith, own, more, g)
        go false e g = omega (arith, g)

    -- the row has the cell's room
    pub own-room : (b : ℕ) → room_of (set rows lane y) lane b ≡ cell_room (find_cell b y.cells.items)
    own-room b = set-room lane b ∙ ap (λ t. cond t (cell_room (find_cell b y.cells.items)) (room_of rows lane b)) (eq-eqb lane lane refl)

    pub cell-back : (b : ℕ) {E : Type 0} (r : Result CellChange E) → IfOk r (λ back. (seen_changed back (seen_in y.cells.items b) ≡ seen_in x.cells.items b) × (fits_in back (cell_room (find_cell b y.cells.items)) ≡ true)) → IfOk r (λ back. (seen_changed back (rows_seen (set rows lane y) lane b) ≡ rows_seen rows lane b) × (fits_in back (room_of (set rows lane y) lane b) ≡ true))
    cell-back b (results.Ok back) g =
        let own : rows_seen (set rows lane y) lane b ≡ seen_in y.cells.items b = rows-set rows lane lane b y h ∙ ap (λ t. cond t (seen_in y.cells.items b) (rows_seen rows lane b)) (eq-eqb lane lane refl) in
        (ap (seen_changed back) own ∙ (g.0 ∙ row-of rows lane b x h is), ap (fits_in back) (own-room b) ∙ g.1)
    cell-back b (results.Err z) g = tt

    pub cell-changes : (block : ℕ) (change : Seen → Seen) → (is_some (find_cell block x.cells.items) ≡ true → ChangesRow x.cells.items y.cells.items block change) → has_cell rows lane block ≡ true → ChangesCell rows (set rows lane y) lane block change
    cell-changes block change f has = record {
      seen = λ l b. rows-set rows lane l b y h ∙ told l b (nat_eq lane l) refl;
      cells = λ l b. set-has l b ∙ kept l b (nat_eq lane l) refl;
      rooms = no-room r.rooms;
      lanes = length-set rows lane y;
    }
      where
        r : ChangesRow x.cells.items y.cells.items block change
        r = f (ap (λ cs. is_some (find_cell block cs)) (sym cells-of) ∙ has)

        told : (l b : ℕ) (t : Bool) → nat_eq lane l ≡ t → cond t (seen_in y.cells.items b) (rows_seen rows l b) ≡ cond (t && nat_eq block b) (change (rows_seen rows l b)) (rows_seen rows l b)
        told l b true e = r.seen b ∙ ap (λ v. cond (nat_eq block b) (change v) v) (row-of rows lane b x h is ∙ ap (λ k. rows_seen rows k b) (eqb-true lane l e))
        told l b false e = refl

        kept : (l b : ℕ) (t : Bool) → nat_eq lane l ≡ t → cond t (is_some (find_cell b y.cells.items)) (has_cell rows l b) ≡ has_cell rows l b
        kept l b true e = r.cells b ∙ (ap (λ cs. is_some (find_cell b cs)) (sym cells-of) ∙ ap (λ k. has_cell rows k b) (eqb-true lane l e))
        kept l b false e = refl

-- past the rows there are no cells
pub no-lane : (rows : List LaneRange) (lane block : ℕ) → length rows ≤ lane → has_cell rows lane block ≡ true → ⊥
no-lane rows lane block h has = go (slice_get_cases rows lane).1
  where
    go : ((x : LaneRange) × (lane < length rows) × (slice_get rows lane ≡ Some x) × (get_or rows lane x ≡ x)) ⊎ ((length rows ≤ lane) × (slice_get rows lane ≡ None)) → ⊥
    go (inl z) = let w = z.1 in omega arith
    go (inr z) = let e : false ≡ true = ap (λ o. is_some (find_cell block (row_cells o))) (sym z.1) ∙ has in cc
