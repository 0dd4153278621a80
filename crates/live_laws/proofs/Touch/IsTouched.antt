-- A range is touched exactly where some instruction is named among those that touch it.
use Rattle.std.proofs.Common.{◌≡◌, ◌⊎◌, inl, inr, ◌+◌, ℕ, Bool, true, false, cond, List, [], ◌∷◌, Option, Some, None, length, refl, sym, ap, ◌∙◌, eq-eqb, arith}
use Rattle.std.specs.Prelude.{nat_eq, nat_lt, slice_get}
use Rattle.std.specs.List.{list_any}
use Rattle.std.proofs.lemmas.Bool.{lt-ltb}
use Rattle.live_laws.proofs.Effects.Lists.{any-in}
use Rattle.instr_effects.specs.declared.row.LaneSpan.{LaneSpan}
use Rattle.live_lanes.specs.declared.row.LaneUse.{LaneUse}
use Rattle.live_lanes.specs.declared.row.Cell.{Cell}
use Rattle.live_lanes.specs.declared.row.LaneRange.{LaneRange}
use Rattle.live_lanes.specs.Entered.{cells_of}
use Rattle.mir_meaning.specs.Paths.{has}
use Rattle.live_lanes.specs.Touching.{reads_in, names_segment, names_cell, names_lane, some_of, some_lane, is_touched, touches_lane}
use Rattle.live_laws.specs.Touch.{IsTouchedLaw}
use Rattle.live_laws.proofs.Touch.Cells.{or-cases, or-left, or-right, any-of}
use Rattle.live_laws.proofs.Touch.Touched.{below-forth, below-back}

-- lists

occupied : {X : Type 0} (x : X) (xs : List X) → nat_lt 0 (length (x ∷ xs)) ≡ true
occupied x xs = lt-ltb 0 (length (x ∷ xs)) (omega arith)

-- what passes a test is there
any-there : {X : Type 0} (p : X → Bool) (xs : List X) → list_any p xs ≡ true → nat_lt 0 (length xs) ≡ true
any-there p [] e = absurd (cc)
any-there p (x ∷ xs) e = occupied x xs

-- the first passes the test of its key
key-there : {X : Type 0} (p : ℕ → X → Bool) (key : X → ℕ) (xs : List X) → ((x : X) → p (key x) x ≡ true) → nat_lt 0 (length xs) ≡ true → (id : ℕ) × (list_any (p id) xs ≡ true)
key-there p key [] h e = absurd (cc)
key-there p key (x ∷ xs) h e = (key x, or-left (p (key x) x) (list_any (p (key x)) xs) (h x))

-- cells

cell-forth : (c : Cell) → is_touched c ≡ true → (id : ℕ) × (names_cell id c ≡ true)
cell-forth c e = go (or-cases (nat_lt 0 (length c.first.readings.items)) (nat_lt 0 (length c.segments.items)) e)
  where
    go : (nat_lt 0 (length c.first.readings.items) ≡ true) ⊎ (nat_lt 0 (length c.segments.items) ≡ true) → (id : ℕ) × (names_cell id c ≡ true)
    go (inl f) =
        let z = key-there (λ id (r : LaneUse). nat_eq r.id id) (λ r. r.id) c.first.readings.items (λ r. eq-eqb r.id r.id refl) f in
        (z.0, or-left (reads_in z.0 c.first.readings.items) (list_any (names_segment z.0) c.segments.items) z.1)
    go (inr f) =
        let z = key-there names_segment (λ s. s.start) c.segments.items (λ s. or-left (nat_eq s.start s.start) (reads_in s.start s.piece.readings.items) (eq-eqb s.start s.start refl)) f in
        (z.0, or-right (reads_in z.0 c.first.readings.items) (list_any (names_segment z.0) c.segments.items) z.1)

cell-back : (id : ℕ) (c : Cell) → names_cell id c ≡ true → is_touched c ≡ true
cell-back id c e = go (or-cases (reads_in id c.first.readings.items) (list_any (names_segment id) c.segments.items) e)
  where
    go : (reads_in id c.first.readings.items ≡ true) ⊎ (list_any (names_segment id) c.segments.items ≡ true) → is_touched c ≡ true
    go (inl f) = or-left (nat_lt 0 (length c.first.readings.items)) (nat_lt 0 (length c.segments.items)) (any-there (λ r. nat_eq r.id id) c.first.readings.items f)
    go (inr f) = or-right (nat_lt 0 (length c.first.readings.items)) (nat_lt 0 (length c.segments.items)) (any-there (names_segment id) c.segments.items f)

-- lanes

lane-forth : (rows : List LaneRange) (l : ℕ) → touches_lane rows l ≡ true → (id : ℕ) × (names_lane id rows l ≡ true)
lane-forth rows l e =
    let z = any-of is_touched (cells_of rows l) e in
    let y = cell-forth z.0 z.2 in
    (y.0, any-in (names_cell y.0) z.0 (cells_of rows l) z.1 y.1)

lane-back : (id : ℕ) (rows : List LaneRange) (l : ℕ) → names_lane id rows l ≡ true → touches_lane rows l ≡ true
lane-back id rows l e = let z = any-of (names_cell id) (cells_of rows l) e in any-in is_touched z.0 (cells_of rows l) z.1 (cell-back id z.0 z.2)

-- ranges

some-forth : (rows : List LaneRange) (q : Option LaneSpan) → some_of (touches_lane rows) q ≡ true → (id : ℕ) × (some_of (names_lane id rows) q ≡ true)
some-forth rows None e = absurd (cc)
some-forth rows (Some own) e =
    let z = below-forth (touches_lane rows) own.first own.count e in
    let y = lane-forth rows (own.first + z.0) z.2 in
    (y.0, below-back (names_lane y.0 rows) own.first own.count z.0 z.1 y.1)

some-back : (id : ℕ) (rows : List LaneRange) (q : Option LaneSpan) → some_of (names_lane id rows) q ≡ true → some_of (touches_lane rows) q ≡ true
some-back id rows None e = absurd (cc)
some-back id rows (Some own) e =
    let z = below-forth (names_lane id rows) own.first own.count e in
    below-back (touches_lane rows) own.first own.count z.0 z.1 (lane-back id rows (own.first + z.0) z.2)

pub is-touched-law : IsTouchedLaw
is-touched-law x v [] all = go (some_lane x v (touches_lane x.rows.rows.items)) refl
  where
    go : (b : Bool) → some_lane x v (touches_lane x.rows.rows.items) ≡ b → some_lane x v (touches_lane x.rows.rows.items) ≡ false
    go true e = absurd (let z = some-forth x.rows.rows.items (slice_get x.lanes.ranges.items v) e in let h : false ≡ true = all.named z.0 ∙ z.1 in cc)
    go false e = e
is-touched-law x v (id ∷ ids) all =
    let there : has id (id ∷ ids) ≡ true = ap (λ b. cond b true (has id ids)) (eq-eqb id id refl) in
    some-back id x.rows.rows.items (slice_get x.lanes.ranges.items v) (sym (all.named id) ∙ there) ∙ sym (occupied id ids)
