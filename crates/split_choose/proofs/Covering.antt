-- What the stretches of a range cover, and at which points they begin.
use Rattle.std.proofs.Common.{◌≡◌, ◌≢◌, ◌∙◌, ◌⊎◌, inl, inr, ℕ, zero, suc, ◌+◌, ◌<◌, ◌≤◌, List, [], ◌∷◌, ◌++◌, Bool, true, false, cond, arith, refl, sym, ap, subst, map, Option, None, Some, max}
use Rattle.std.specs.Prelude.{nat_eq, nat_lt, nat_le, ◌||◌, ◌&&◌, slice_get, option_map, flat_map}
use Rattle.std.specs.List.{list_any, list_all}
use Rattle.std.proofs.lemmas.Bool.{cases_eq, eq-eqb, ne_eqb, or_left, or_right, and_from, and_parts, leb-true, le-leb, lt-ltb, ltb-true}
use Rattle.std.proofs.lemmas.List.Folds.{list_any-append, list_all-append}
use Rattle.std.proofs.lemmas.Grind.{flat_map-append}
use Rattle.meaning.specs.Live.{Among, here, there}
use Rattle.mir_meaning.specs.Registers.{numbers}
use Rattle.mir_func.specs.declared.func.Instr.{Instr}
use Rattle.instr_effects.specs.declared.row.LaneSpan.{LaneSpan}
use Rattle.instr_effects.specs.Numbered.{number_in}
use Rattle.instr_effects.specs.declared.owner.Owner.TheVariants as owners
use Rattle.live_lanes.specs.declared.ask.extent.Extent.{Extent}
use Rattle.live_lanes.specs.declared.ask.extent.Stretch.{Stretch}
use Rattle.live_lanes.specs.declared.row.DefPiece.{DefPiece}
use Rattle.live_lanes.specs.declared.row.Cell.{Cell}
use Rattle.live_lanes.specs.declared.row.LaneRange.{LaneRange}
use Rattle.live_lanes.specs.declared.table.Table.{Table}
use Rattle.live_lanes.specs.Table.{Numbers, Begun, Seen, begun, unseen, seen, seen_cell, seen_in, find_cell, is_below, descends, entry_rank, exit_rank, end_rank, rises_from}
use Rattle.mir_meaning.specs.Paths.{has}
use Rattle.live_lanes.specs.Reach.{is_never}
use Rattle.live_lanes.specs.Entered.{cells_of, rows_seen}
use Rattle.live_lanes.specs.Extents.{lanes_count, segment_extent, extent_in, cell_extents, first_rank, last_rank, stretch_of, is_met_in}
use Rattle.live_lanes.specs.Ordered.{ids_of}
use Rattle.live_lanes.specs.Touching.{some_below, some_of, some_lane}
use Rattle.live_lanes.proofs.Extents.{unseen-none}
use Rattle.split_choose.specs.Seen.{only, ends_in_turn, begins_here}
use Rattle.split_choose.specs.Spanned.{is_covered, is_rank_in, begins_at_point, is_cell, is_in_block}
use Rattle.split_choose.specs.Built.{cell_stretches, stretches_at, cells_stretches, lane_stretches, range_stretches, lane_positions, range_positions}
use Rattle.split_choose.proofs.Covers.{among-cases, held-covered, covered-held, extent-piece}
use Rattle.split_choose.proofs.Building.{numbers_next}
use Rattle.split_choose.proofs.Positions.{both-ways}

-- an element that passes a test

pub any-among : {X Y : Type 0} (p : Y → Bool) (g : X → Y) (xs : List X) → list_any p (map g xs) ≡ true → (x : X) × Among x xs × (p (g x) ≡ true)
any-among p g [] h = cc
any-among {X} {Y} p g (x ∷ xs) h = go (p (g x)) refl (any-among p g xs)
  where
    later : ((z : X) × Among z xs × (p (g z) ≡ true)) → (z : X) × Among z (x ∷ xs) × (p (g z) ≡ true)
    later w = (w.0, there w.1, w.2)

    go : (b : Bool) → p (g x) ≡ b → (list_any p (map g xs) ≡ true → (z : X) × Among z xs × (p (g z) ≡ true)) → (z : X) × Among z (x ∷ xs) × (p (g z) ≡ true)
    go true e ih = (x, here, e)
    go false e ih = later (ih (sym (ap (λ b. b || list_any p (map g xs)) e) ∙ h))

pub among-any : {X Y : Type 0} (p : Y → Bool) (g : X → Y) (xs : List X) (x : X) → Among x xs → p (g x) ≡ true → list_any p (map g xs) ≡ true
among-any p g [] x m h = elim m [ ]
among-any {X} {Y} p g (y ∷ xs) x m h = go (among-cases x y xs m) (among-any p g xs x)
  where
    go : (x ≡ y) ⊎ Among x xs → (Among x xs → p (g x) ≡ true → list_any p (map g xs) ≡ true) → list_any p (map g (y ∷ xs)) ≡ true
    go (inl e) ih = or_left (p (g y)) (list_any p (map g xs)) (ap (λ z. p (g z)) (sym e) ∙ h)
    go (inr n) ih = or_right (p (g y)) (list_any p (map g xs)) (ih n h)

pub all-among : {X Y : Type 0} (p : Y → Bool) (g : X → Y) (xs : List X) → ((x : X) → Among x xs → p (g x) ≡ true) → list_all p (map g xs) ≡ true
all-among p g [] h = refl
all-among p g (x ∷ xs) h = and_from (p (g x)) (list_all p (map g xs)) (h x here) (all-among p g xs (λ z m. h z (there m)))

-- over the lanes of a range

module _ {A : Type 0} (x : Table) (v : ℕ) (g : Option ℕ → List A) (p : A → Bool) where
  abbrev given : ℕ → List A
  given j = g (number_in x.lanes (owners.Range v j))

  module _ (test : ℕ → Bool) (tells : (l : ℕ) → list_any p (g (Some l)) ≡ test l) where
    or-comm : (a b : Bool) → (a || b) ≡ (b || a)
    or-comm true true = refl
    or-comm true false = refl
    or-comm false true = refl
    or-comm false false = refl

    some-lanes : (own : LaneSpan) → slice_get x.lanes.ranges.items v ≡ Some own → (n : ℕ) → n ≤ own.count → list_any p (flat_map given (numbers 0 n)) ≡ some_below test own.first n
    some-lanes own at zero h = refl
    some-lanes own at (suc n) h =
        let next : numbers 0 (suc n) ≡ numbers 0 n ++ n ∷ [] = (let s : suc n ≡ n + 1 = omega arith in ap (numbers 0) s ∙ numbers_next n) in
        let number : number_in x.lanes (owners.Range v n) ≡ Some (own.first + n) = rw at (ap (λ b. cond b (Some (own.first + n)) None) (lt-ltb n own.count (omega arith))) in
        let one : list_any p (flat_map given (n ∷ [])) ≡ test (own.first + n) = ap (list_any p) (alone (given n)) ∙ (ap (λ o. list_any p (g o)) number ∙ tells (own.first + n)) in
        ap (λ ns. list_any p (flat_map given ns)) next
        ∙ (ap (list_any p) (flat_map-append given (numbers 0 n) (n ∷ []))
        ∙ (list_any-append p (flat_map given (numbers 0 n)) (flat_map given (n ∷ []))
        ∙ (ap (λ b. b || list_any p (flat_map given (n ∷ []))) (some-lanes own at n (omega arith))
        ∙ (ap (λ b. some_below test own.first n || b) one ∙ or-comm (some_below test own.first n) (test (own.first + n))))))
      where
        alone : (xs : List A) → xs ++ [] ≡ xs
        alone [] = refl
        alone (y ∷ ys) = ap (λ zs. y ∷ zs) (alone ys)

    pub any-lane : list_any p (flat_map given (numbers 0 (lanes_count (slice_get x.lanes.ranges.items v)))) ≡ some_lane x v test
    any-lane = go (slice_get x.lanes.ranges.items v) refl
      where
        go : (o : Option LaneSpan) → slice_get x.lanes.ranges.items v ≡ o → list_any p (flat_map given (numbers 0 (lanes_count (slice_get x.lanes.ranges.items v)))) ≡ some_of test (slice_get x.lanes.ranges.items v)
        go None e = ap (λ o. list_any p (flat_map given (numbers 0 (lanes_count o)))) e ∙ sym (ap (some_of test) e)
        go (Some own) e = ap (λ o. list_any p (flat_map given (numbers 0 (lanes_count o)))) e ∙ (some-lanes own e own.count (omega arith) ∙ sym (ap (some_of test) e))

  pub all-lanes : (list_all p (g None) ≡ true) → ((l : ℕ) → list_all p (g (Some l)) ≡ true) → (ns : List ℕ) → list_all p (flat_map given ns) ≡ true
  all-lanes none some [] = refl
  all-lanes none some (n ∷ ns) = list_all-append p (given n) (flat_map given ns) ∙ and_from (list_all p (given n)) (list_all p (flat_map given ns)) (each (number_in x.lanes (owners.Range v n))) (all-lanes none some ns)
    where
      each : (o : Option ℕ) → list_all p (g o) ≡ true
      each None = none
      each (Some l) = some l

-- the cell of a block

eq-back : (a b : ℕ) → nat_eq a b ≡ nat_eq b a
eq-back a b = go (cases_eq a b)
  where
    go : (a ≡ b) ⊎ (a ≢ b) → nat_eq a b ≡ nat_eq b a
    go (inl e) = eq-eqb a b e ∙ sym (eq-eqb b a (sym e))
    go (inr d) = ne_eqb a b d ∙ sym (ne_eqb b a (λ e. d (sym e)))

find-below : (n k : ℕ) (cs : List Cell) → n ≤ k → is_below n cs ≡ true → descends cs ≡ true → find_cell k cs ≡ None
find-below n k [] le b d = refl
find-below n k (c ∷ cs) le b d =
    let lt : c.block < n = ltb-true c.block n b in
    let parts = and_parts (is_below c.block cs) (descends cs) d in
    ap (λ t. cond t (Some c) (find_cell k cs)) (ne_eqb c.block k (λ e. (let z : ⊥ = omega arith in z))) ∙ find-below c.block k cs (omega arith) parts.0 parts.1

module _ (slots : Numbers) (k : ℕ) where
  none-there : (cs : List Cell) → find_cell k cs ≡ None → cells_stretches slots cs k ≡ []
  none-there [] h = refl
  none-there (c ∷ cs) h = go (nat_eq c.block k) refl (none-there cs)
    where
      go : (b : Bool) → nat_eq c.block k ≡ b → (find_cell k cs ≡ None → cells_stretches slots cs k ≡ []) → stretches_at slots k c ++ cells_stretches slots cs k ≡ []
      go true e ih = let q : Some c ≡ None = sym (ap (λ t. cond t (Some c) (find_cell k cs)) e) ∙ h in cc
      go false e ih =
          let q : find_cell k cs ≡ None = sym (ap (λ t. cond t (Some c) (find_cell k cs)) e) ∙ h in
          ap (λ b. cond b (cell_stretches slots (Some c)) [] ++ cells_stretches slots cs k) (eq-back k c.block ∙ e) ∙ ih q

  one-there : (cs : List Cell) (c : Cell) → descends cs ≡ true → find_cell k cs ≡ Some c → cells_stretches slots cs k ≡ cell_stretches slots (Some c)
  one-there [] c d h = cc
  one-there (x ∷ cs) c d h = go (nat_eq x.block k) refl (cases_eq x.block k) (one-there cs c (and_parts (is_below x.block cs) (descends cs) d).1)
    where
      nothing : (xs : List Stretch) → xs ++ [] ≡ xs
      nothing [] = refl
      nothing (y ∷ ys) = ap (λ zs. y ∷ zs) (nothing ys)

      go : (b : Bool) → nat_eq x.block k ≡ b → (x.block ≡ k) ⊎ (x.block ≢ k) → (find_cell k cs ≡ Some c → cells_stretches slots cs k ≡ cell_stretches slots (Some c)) → stretches_at slots k x ++ cells_stretches slots cs k ≡ cell_stretches slots (Some c)
      go true e (inr n) ih = let z : true ≡ false = sym e ∙ ne_eqb x.block k n in cc
      go true e (inl s) ih =
          let q : Some x ≡ Some c = sym (ap (λ t. cond t (Some x) (find_cell k cs)) e) ∙ h in
          let same : x ≡ c = cc in
          let parts = and_parts (is_below x.block cs) (descends cs) d in
          ap (λ b. cond b (cell_stretches slots (Some x)) [] ++ cells_stretches slots cs k) (eq-back k x.block ∙ e)
          ∙ (ap (λ xs. cell_stretches slots (Some x) ++ xs) (none-there cs (find-below x.block k cs (omega arith) parts.0 parts.1))
          ∙ (nothing (cell_stretches slots (Some x)) ∙ ap (λ (y : Cell). cell_stretches slots (Some y)) same))
      go false e n ih =
          let q : find_cell k cs ≡ Some c = sym (ap (λ t. cond t (Some x) (find_cell k cs)) e) ∙ h in
          ap (λ b. cond b (cell_stretches slots (Some x)) [] ++ cells_stretches slots cs k) (eq-back k x.block ∙ e) ∙ ih q

-- what a lane covers

module _ (slots : Numbers) (at : ℕ) where
  abbrev covering : Stretch → Bool
  covering s = nat_le s.first at && nat_le at s.last

  cell-covers : (c : Cell) → rises_from slots 0 (seen_cell c).segments ≡ true → ends_in_turn slots (seen_cell c) ≡ true → is_covered (cell_stretches slots (Some c)) at ≡ is_met_in slots (seen_cell c) (only at)
  cell-covers c rises turns = both-ways (is_covered (cell_stretches slots (Some c)) at) (is_met_in slots (seen_cell c) (only at)) forth back
    where
      forth : is_covered (cell_stretches slots (Some c)) at ≡ true → is_met_in slots (seen_cell c) (only at) ≡ true
      forth h =
          let e = any-among covering (stretch_of slots) (cell_extents c) h in
          let parts = and_parts (nat_le (first_rank slots e.0) at) (nat_le at (last_rank slots e.0)) e.2 in
          covered-held slots c rises turns at e.0 e.1 (leb-true (first_rank slots e.0) at parts.0) (leb-true at (last_rank slots e.0) parts.1)

      back : is_met_in slots (seen_cell c) (only at) ≡ true → is_covered (cell_stretches slots (Some c)) at ≡ true
      back h =
          let e = held-covered slots c rises at h in
          among-any covering (stretch_of slots) (cell_extents c) e.0 e.1 (and_from (nat_le (first_rank slots e.0) at) (nat_le at (last_rank slots e.0)) (le-leb (first_rank slots e.0) at e.2) (le-leb at (last_rank slots e.0) e.3))

  cells-cover : (cs : List Cell) (k : ℕ) → descends cs ≡ true → rises_from slots 0 (seen_in cs k).segments ≡ true → ends_in_turn slots (seen_in cs k) ≡ true → is_covered (cells_stretches slots cs k) at ≡ is_met_in slots (seen_in cs k) (only at)
  cells-cover cs k down rises turns = go (find_cell k cs) refl
    where
      go : (o : Option Cell) → find_cell k cs ≡ o → is_covered (cells_stretches slots cs k) at ≡ is_met_in slots (seen (find_cell k cs)) (only at)
      go None e = ap (λ ss. is_covered ss at) (none-there slots k cs e) ∙ (sym (unseen-none slots (only at)) ∙ ap (λ o. is_met_in slots (seen o) (only at)) (sym e))
      go (Some c) e =
          let R : Option Cell → Type 0 = λ o. rises_from slots 0 (seen o).segments ≡ true in
          let T : Option Cell → Type 0 = λ o. ends_in_turn slots (seen o) ≡ true in
          ap (λ ss. is_covered ss at) (one-there slots k cs c down e) ∙ (cell-covers c (subst R e rises) (subst T e turns) ∙ ap (λ o. is_met_in slots (seen o) (only at)) (sym e))

seen-there : (rows : List LaneRange) (l k : ℕ) → rows_seen rows l k ≡ seen_in (cells_of rows l) k
seen-there rows l k = go (slice_get rows l) refl
  where
    go : (o : Option LaneRange) → slice_get rows l ≡ o → rows_seen rows l k ≡ seen_in (cells_of rows l) k
    go None e = ap (λ o. elim o as (λ x. Seen) [ None ↦ unseen | Some r ↦ seen_in r.cells.items k ]) e ∙ sym (ap (λ o. seen_in (elim o as (λ x. List Cell) [ None ↦ [] | Some r ↦ r.cells.items ]) k) e)
    go (Some r) e = ap (λ o. elim o as (λ x. Seen) [ None ↦ unseen | Some r ↦ seen_in r.cells.items k ]) e ∙ sym (ap (λ o. seen_in (elim o as (λ x. List Cell) [ None ↦ [] | Some r ↦ r.cells.items ]) k) e)

module _ (x : Table) (v k : ℕ) (down : (l : ℕ) → descends (cells_of x.rows.rows.items l) ≡ true)
    (rises : (l b : ℕ) → rises_from x.order.slots 0 (rows_seen x.rows.rows.items l b).segments ≡ true)
    (turns : (l b : ℕ) → ends_in_turn x.order.slots (rows_seen x.rows.rows.items l b) ≡ true) where
  pub range-covers : (at : ℕ) → is_covered (range_stretches x v (lanes_count (slice_get x.lanes.ranges.items v)) k) at ≡ some_lane x v (λ l. is_met_in x.order.slots (rows_seen x.rows.rows.items l k) (only at))
  range-covers at = any-lane x v (lane_stretches x k) (covering x.order.slots at) (λ l. is_met_in x.order.slots (rows_seen x.rows.rows.items l k) (only at)) lane
    where
      lane : (l : ℕ) → is_covered (lane_stretches x k (Some l)) at ≡ is_met_in x.order.slots (rows_seen x.rows.rows.items l k) (only at)
      lane l =
          let there = seen-there x.rows.rows.items l k in
          let R : Seen → Type 0 = λ s. rises_from x.order.slots 0 s.segments ≡ true in
          let T : Seen → Type 0 = λ s. ends_in_turn x.order.slots s ≡ true in
          cells-cover x.order.slots at (cells_of x.rows.rows.items l) k (down l) (subst R there (rises l k)) (subst T there (turns l k)) ∙ ap (λ s. is_met_in x.order.slots s (only at)) (sym there)

-- stretches begin at points, and end behind where they begin

any-rank : (slots : Numbers) (is : List Instr) (id : ℕ) → has id (ids_of is) ≡ true → (is_rank_in slots is (entry_rank slots id) ≡ true) × (is_rank_in slots is (exit_rank slots id) ≡ true)
any-rank slots is id h =
    let e = within is h in (
      or_right (nat_eq (entry_rank slots id) 0) (list_any (λ (i : Instr). nat_eq (entry_rank slots id) (entry_rank slots i.id) || nat_eq (entry_rank slots id) (exit_rank slots i.id)) is) e.0,
      or_right (nat_eq (exit_rank slots id) 0) (list_any (λ (i : Instr). nat_eq (exit_rank slots id) (entry_rank slots i.id) || nat_eq (exit_rank slots id) (exit_rank slots i.id)) is) e.1,
    )
  where
    within : (is : List Instr) → has id (ids_of is) ≡ true → (list_any (λ (i : Instr). nat_eq (entry_rank slots id) (entry_rank slots i.id) || nat_eq (entry_rank slots id) (exit_rank slots i.id)) is ≡ true) × (list_any (λ (i : Instr). nat_eq (exit_rank slots id) (entry_rank slots i.id) || nat_eq (exit_rank slots id) (exit_rank slots i.id)) is ≡ true)
    within [] h = cc
    within (i ∷ is) h = go (cases_eq i.id id) (within is)
      where
        entry-here : i.id ≡ id → nat_eq (entry_rank slots id) (entry_rank slots i.id) ≡ true
        entry-here e = eq-eqb (entry_rank slots id) (entry_rank slots i.id) (ap (entry_rank slots) (sym e))

        exit-here : i.id ≡ id → nat_eq (exit_rank slots id) (exit_rank slots i.id) ≡ true
        exit-here e = eq-eqb (exit_rank slots id) (exit_rank slots i.id) (ap (exit_rank slots) (sym e))

        go : (i.id ≡ id) ⊎ (i.id ≢ id) → (has id (ids_of is) ≡ true → (list_any (λ (i : Instr). nat_eq (entry_rank slots id) (entry_rank slots i.id) || nat_eq (entry_rank slots id) (exit_rank slots i.id)) is ≡ true) × (list_any (λ (i : Instr). nat_eq (exit_rank slots id) (entry_rank slots i.id) || nat_eq (exit_rank slots id) (exit_rank slots i.id)) is ≡ true))
            → (list_any (λ (i : Instr). nat_eq (entry_rank slots id) (entry_rank slots i.id) || nat_eq (entry_rank slots id) (exit_rank slots i.id)) (i ∷ is) ≡ true) × (list_any (λ (i : Instr). nat_eq (exit_rank slots id) (entry_rank slots i.id) || nat_eq (exit_rank slots id) (exit_rank slots i.id)) (i ∷ is) ≡ true)
        go (inl e) ih = (
          or_left (nat_eq (entry_rank slots id) (entry_rank slots i.id) || nat_eq (entry_rank slots id) (exit_rank slots i.id)) (list_any (λ (j : Instr). nat_eq (entry_rank slots id) (entry_rank slots j.id) || nat_eq (entry_rank slots id) (exit_rank slots j.id)) is) (or_left (nat_eq (entry_rank slots id) (entry_rank slots i.id)) (nat_eq (entry_rank slots id) (exit_rank slots i.id)) (entry-here e)),
          or_left (nat_eq (exit_rank slots id) (entry_rank slots i.id) || nat_eq (exit_rank slots id) (exit_rank slots i.id)) (list_any (λ (j : Instr). nat_eq (exit_rank slots id) (entry_rank slots j.id) || nat_eq (exit_rank slots id) (exit_rank slots j.id)) is) (or_right (nat_eq (exit_rank slots id) (entry_rank slots i.id)) (nat_eq (exit_rank slots id) (exit_rank slots i.id)) (exit-here e)),
        )
        go (inr n) ih =
            let r = ih (sym (ap (λ b. cond b true (has id (ids_of is))) (ne_eqb i.id id n)) ∙ h) in (
              or_right (nat_eq (entry_rank slots id) (entry_rank slots i.id) || nat_eq (entry_rank slots id) (exit_rank slots i.id)) (list_any (λ (j : Instr). nat_eq (entry_rank slots id) (entry_rank slots j.id) || nat_eq (entry_rank slots id) (exit_rank slots j.id)) is) r.0,
              or_right (nat_eq (exit_rank slots id) (entry_rank slots i.id) || nat_eq (exit_rank slots id) (exit_rank slots i.id)) (list_any (λ (j : Instr). nat_eq (exit_rank slots id) (entry_rank slots j.id) || nat_eq (exit_rank slots id) (exit_rank slots j.id)) is) r.1,
            )

extent-begins : (slots : Numbers) (is : List Instr) (c : Cell) (e : Extent) → begins_here is (seen_cell c) ≡ true → Among e (cell_extents c) → begins_at_point slots is (stretch_of slots e) ≡ true
extent-begins slots is c e begins m = let z = extent-piece c e m in by_place z.0 z.1
  where
    at-start : (id : ℕ) (early : Bool) → has id (ids_of is) ≡ true → is_rank_in slots is (cond early (entry_rank slots id) (exit_rank slots id)) ≡ true
    at-start id true h = (any-rank slots is id h).0
    at-start id false h = (any-rank slots is id h).1

    listed : (ss : List DefPiece) (j : ℕ) (p : DefPiece) → list_all (λ (b : Begun). has b.start (ids_of is)) (map begun ss) ≡ true → slice_get ss j ≡ Some p → has p.start (ids_of is) ≡ true
    listed [] j p h g = cc
    listed (s ∷ ss) zero p h g = let same : s ≡ p = cc in ap (λ (q : DefPiece). has q.start (ids_of is)) (sym same) ∙ (and_parts (has s.start (ids_of is)) (list_all (λ (b : Begun). has b.start (ids_of is)) (map begun ss)) h).0
    listed (s ∷ ss) (suc j) p h g = listed ss j p (and_parts (has s.start (ids_of is)) (list_all (λ (b : Begun). has b.start (ids_of is)) (map begun ss)) h).1 g

    segment : (j : ℕ) (o : Option DefPiece) → slice_get c.segments.items j ≡ o → option_map segment_extent o ≡ Some e → begins_at_point slots is (stretch_of slots e) ≡ true
    segment j None g h = cc
    segment j (Some p) g h =
        let same : segment_extent p ≡ e = cc in
        let P : Extent → Type 0 = λ y. begins_at_point slots is (stretch_of slots y) ≡ true in
        subst P same (at-start p.start p.early (listed c.segments.items j p begins g))

    whole : (u : Bool) → cond u None (Some (record { start = None; early = false; end = c.first.end })) ≡ Some e → begins_at_point slots is (stretch_of slots e) ≡ true
    whole true h = cc
    whole false h =
        let P : Extent → Type 0 = λ y. begins_at_point slots is (stretch_of slots y) ≡ true in
        subst P (only-same _ e h) refl
      where
        only-same : (a b : Extent) → Some a ≡ Some b → a ≡ b
        only-same a b e = cc

    by_place : (n : ℕ) → extent_in (Some c) n ≡ Some e → begins_at_point slots is (stretch_of slots e) ≡ true
    by_place zero h = whole (is_never c.first.end) h
    by_place (suc j) h = segment j (slice_get c.segments.items j) refl h

in-order : (slots : Numbers) (e : Extent) → nat_le (first_rank slots e) (last_rank slots e) ≡ true
in-order slots e = le-leb (first_rank slots e) (last_rank slots e) (go e.start)
  where
    early-or-late : (id : ℕ) (b : Bool) → cond b (entry_rank slots id) (exit_rank slots id) ≤ max (end_rank slots e.end) (exit_rank slots id)
    early-or-late id true = omega arith
    early-or-late id false = omega arith

    go : (o : Option ℕ) → (elim o as (λ x. ℕ) [ None ↦ 0 | Some id ↦ cond e.early (entry_rank slots id) (exit_rank slots id) ]) ≤ (elim o as (λ x. ℕ) [ None ↦ end_rank slots e.end | Some id ↦ max (end_rank slots e.end) (exit_rank slots id) ])
    go None = omega arith
    go (Some id) = early-or-late id e.early

-- each stretch of the cells passes a test that those of each cell pass
module _ (slots : Numbers) (k : ℕ) (p : Stretch → Bool) where
  all-cells : (cs : List Cell) → descends cs ≡ true → ((c : Cell) → find_cell k cs ≡ Some c → list_all p (cell_stretches slots (Some c)) ≡ true) → list_all p (cells_stretches slots cs k) ≡ true
  all-cells cs down each = go (find_cell k cs) refl
    where
      go : (o : Option Cell) → find_cell k cs ≡ o → list_all p (cells_stretches slots cs k) ≡ true
      go None e = ap (list_all p) (none-there slots k cs e)
      go (Some c) e = ap (list_all p) (one-there slots k cs c down e) ∙ each c e

module _ (x : Table) (v k n : ℕ) (down : (l : ℕ) → descends (cells_of x.rows.rows.items l) ≡ true) where
  pub range-begins : (is : List Instr) → ((l : ℕ) → begins_here is (rows_seen x.rows.rows.items l k) ≡ true) → list_all (begins_at_point x.order.slots is) (range_stretches x v n k) ≡ true
  range-begins is begins = all-lanes x v (lane_stretches x k) (begins_at_point x.order.slots is) refl lane (numbers 0 n)
    where
      lane : (l : ℕ) → list_all (begins_at_point x.order.slots is) (lane_stretches x k (Some l)) ≡ true
      lane l = all-cells x.order.slots k (begins_at_point x.order.slots is) (cells_of x.rows.rows.items l) (down l) (λ c found.
          (let B : Seen → Type 0 = λ s. begins_here is s ≡ true in
          let b : begins_here is (seen_cell c) ≡ true = subst B (seen-there x.rows.rows.items l k ∙ ap seen found) (begins l) in
          all-among (begins_at_point x.order.slots is) (stretch_of x.order.slots) (cell_extents c) (λ e m. extent-begins x.order.slots is c e b m)))

  pub range-ordered : list_all (λ s. nat_le s.first s.last) (range_stretches x v n k) ≡ true
  range-ordered = all-lanes x v (lane_stretches x k) (λ (s : Stretch). nat_le s.first s.last) refl (λ l. all-cells x.order.slots k (λ (s : Stretch). nat_le s.first s.last) (cells_of x.rows.rows.items l) (down l) (λ c found. all-among (λ (s : Stretch). nat_le s.first s.last) (stretch_of x.order.slots) (cell_extents c) (λ e m. in-order x.order.slots e))) (numbers 0 n)

-- blocks of the range

block-found : (cs : List Cell) (k : ℕ) → list_any (nat_eq k) (map (λ c. c.block) cs) ≡ is_cell (find_cell k cs)
block-found [] k = refl
block-found (c ∷ cs) k = go (nat_eq c.block k) refl (block-found cs k)
  where
    go : (b : Bool) → nat_eq c.block k ≡ b → list_any (nat_eq k) (map (λ (c : Cell). c.block) cs) ≡ is_cell (find_cell k cs) → (nat_eq k c.block || list_any (nat_eq k) (map (λ (c : Cell). c.block) cs)) ≡ is_cell (cond (nat_eq c.block k) (Some c) (find_cell k cs))
    go true e ih = ap (λ b. b || list_any (nat_eq k) (map (λ (c : Cell). c.block) cs)) (eq-back k c.block ∙ e) ∙ sym (ap (λ b. is_cell (cond b (Some c) (find_cell k cs))) e)
    go false e ih = ap (λ b. b || list_any (nat_eq k) (map (λ (c : Cell). c.block) cs)) (eq-back k c.block ∙ e) ∙ (ih ∙ sym (ap (λ b. is_cell (cond b (Some c) (find_cell k cs))) e))

pub range-blocks : (x : Table) (v k : ℕ) → list_any (nat_eq k) (range_positions x v (lanes_count (slice_get x.lanes.ranges.items v))) ≡ is_in_block x v k
range-blocks x v k = any-lane x v (lane_positions x) (nat_eq k) (λ l. is_cell (find_cell k (cells_of x.rows.rows.items l))) (λ l. block-found (cells_of x.rows.rows.items l) k)

pub range-placed : (x : Table) (v n count : ℕ) → ((l : ℕ) → list_all (λ c. nat_lt c.block count) (cells_of x.rows.rows.items l) ≡ true) → list_all (λ k. nat_lt k count) (range_positions x v n) ≡ true
range-placed x v n count placed = all-lanes x v (lane_positions x) (λ k. nat_lt k count) refl (λ l. mapped (cells_of x.rows.rows.items l) (placed l)) (numbers 0 n)
  where
    mapped : (cs : List Cell) → list_all (λ (c : Cell). nat_lt c.block count) cs ≡ true → list_all (λ k. nat_lt k count) (map (λ (c : Cell). c.block) cs) ≡ true
    mapped [] h = refl
    mapped (c ∷ cs) h = let parts = and_parts (nat_lt c.block count) (list_all (λ (c : Cell). nat_lt c.block count) cs) h in and_from (nat_lt c.block count) (list_all (λ k. nat_lt k count) (map (λ (c : Cell). c.block) cs)) parts.0 (mapped cs parts.1)
