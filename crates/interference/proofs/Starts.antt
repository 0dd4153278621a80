-- No two extents of a range in a unit and a block begin alike, and the units of a register are units of the target, each once.
use Rattle.std.proofs.Common.{◌≡◌, ◌<◌, ◌≤◌, ◌+◌, ℕ, suc, Bool, true, false, cond, not, length, map, List, [], ◌∷◌, ◌++◌, Option, None, Some, refl, sym, ap, ◌∙◌, subst, arith, append-nil, append_assoc, eqb-true, eq-eqb}
use Rattle.std.specs.Prelude.{◌||◌, ◌==◌, nat_eq, nat_lt, slice_get, option_map}
use Rattle.std.specs.List.{list_any, list_all, cons_option, filter_map}
use Rattle.std.proofs.lemmas.Bool.{ltb-true}
use Rattle.std.proofs.lemmas.Option.{slice_get_within, get_or_from_slice_get}
use Rattle.target_base.specs.declared.types.Reg.{Reg}
use Rattle.target_base.specs.declared.types.RegDesc.{RegDesc}
use Rattle.target_base.specs.declared.types.Target.{Target}
use Rattle.target_base.specs.declared.types.Unit.{Unit as UnitNumber}
use Rattle.target_base.specs.Names.{are_distinct_numbers, is_distinct}
use Rattle.target_base.specs.Registers.{units_of}
use Rattle.target_base.specs.Rules.{is_reg_desc}
use Rattle.target_base.specs.Storage.{units_in}
use Rattle.target_base.proofs.Sound.{regs_sound}
use Rattle.target_base.proofs.Tests.{first_of_both, second_of_both, each_passes}
use Rattle.mir_meaning.specs.Registers.{numbers}
use Rattle.slot_index.specs.Order.{number_of}
use Rattle.instr_effects.specs.Numbered.{number_in}
use Rattle.instr_effects.specs.declared.owner.Owner.TheVariants as owners
use Rattle.live_lanes.specs.declared.row.Cell.{Cell}
use Rattle.live_lanes.specs.declared.row.DefPiece.{DefPiece}
use Rattle.live_lanes.specs.declared.row.LaneRange.{LaneRange}
use Rattle.live_lanes.specs.declared.table.Table.{Table}
use Rattle.live_lanes.specs.Table.{Numbers, Seen, find_cell, begun, rises_from, seen, seen_cell, seen_in, unseen}
use Rattle.live_lanes.specs.Entered.{rows_seen}
use Rattle.live_lanes.specs.Extents.{block_extent, cell_extents, extent_in, segment_extent, some_extents}
use Rattle.live_lanes.specs.Looks.{InOrder}
use Rattle.live_lanes.specs.Reach.{is_never}
use Rattle.live_lanes.proofs.Cells.{both-left, both-right}
use Rattle.interference.specs.Changes.{starting}
use Rattle.interference.specs.HeldLanes.{lane_in}
use Rattle.interference.specs.Listed.{lane_extents, range_extents, BeginApart}

-- the extents of a cell, piece by piece

segments-from : (c : Cell) (pre ys : List DefPiece) → c.segments.items ≡ pre ++ ys → filter_map (extent_in (Some c)) (numbers (suc (length pre)) (length ys)) ≡ map segment_extent ys
segments-from c pre [] e = refl
segments-from c pre (y ∷ ys) e =
    ap (λ o. cons_option o (filter_map (extent_in (Some c)) (numbers (suc (suc (length pre))) (length ys)))) (ap (option_map segment_extent) (ap (λ xs. slice_get xs (length pre)) e ∙ there pre ys y))
    ∙ ap (λ es. segment_extent y ∷ es) (ap (λ n. filter_map (extent_in (Some c)) (numbers (suc n) (length ys))) (sym (long pre y)) ∙ segments-from c (pre ++ y ∷ []) ys (e ∙ shift pre ys y))
  where
    there : (xs zs : List DefPiece) (z : DefPiece) → slice_get (xs ++ z ∷ zs) (length xs) ≡ Some z
    there [] zs z = refl
    there (x ∷ xs) zs z = there xs zs z

    long : (xs : List DefPiece) (z : DefPiece) → length (xs ++ z ∷ []) ≡ suc (length xs)
    long [] z = refl
    long (x ∷ xs) z = ap suc (long xs z)

    shift : (xs zs : List DefPiece) (z : DefPiece) → xs ++ z ∷ zs ≡ (xs ++ z ∷ []) ++ zs
    shift xs zs z = sym (append_assoc xs (z ∷ []) zs)

pub cell-list : (c : Cell) → cell_extents c ≡ cons_option (block_extent c.first.end) (map segment_extent c.segments.items)
cell-list c =
    let e : length c.segments.items + 1 ≡ suc (length c.segments.items) = omega arith in
    ap (λ n. filter_map (extent_in (Some c)) (numbers 0 n)) e ∙ ap (cons_option (block_extent c.first.end)) (segments-from c [] c.segments.items refl)

-- numbers rise, so that an instruction begins one piece alone

module _ (slots : Numbers) where
  later-none : (id n : ℕ) (ss : List DefPiece) → rises_from slots n (map begun ss) ≡ true → number_of slots id ≤ n → starting (Some id) (map segment_extent ss) ≡ 0
  later-none id n [] r le = refl
  later-none id n (s ∷ ss) r le =
      let up = ltb-true n (number_of slots s.start) (both-left (nat_lt n (number_of slots s.start)) (rises_from slots (number_of slots s.start) (map begun ss)) r) in
      ap (λ b. cond b (suc (starting (Some id) (map segment_extent ss))) (starting (Some id) (map segment_extent ss))) (differ up (nat_eq s.start id) refl)
      ∙ later-none id (number_of slots s.start) ss (both-right (nat_lt n (number_of slots s.start)) (rises_from slots (number_of slots s.start) (map begun ss)) r) (omega arith)
    where
      differ : n < number_of slots s.start → (u : Bool) → nat_eq s.start id ≡ u → nat_eq s.start id ≡ false
      differ up true e = absurd (let z : number_of slots s.start ≡ number_of slots id = ap (number_of slots) (eqb-true s.start id e) in omega arith)
      differ up false e = e

  once : (id n : ℕ) (ss : List DefPiece) → rises_from slots n (map begun ss) ≡ true → starting (Some id) (map segment_extent ss) ≤ 1
  once id n [] r = omega arith
  once id n (s ∷ ss) r = go (nat_eq s.start id) refl (once id (number_of slots s.start) ss up)
    where
      up : rises_from slots (number_of slots s.start) (map begun ss) ≡ true
      up = both-right (nat_lt n (number_of slots s.start)) (rises_from slots (number_of slots s.start) (map begun ss)) r

      go : (u : Bool) → nat_eq s.start id ≡ u → starting (Some id) (map segment_extent ss) ≤ 1 → cond u (suc (starting (Some id) (map segment_extent ss))) (starting (Some id) (map segment_extent ss)) ≤ 1
      go true e ih =
          let same : number_of slots s.start ≡ number_of slots id = ap (number_of slots) (eqb-true s.start id e) in
          let none = later-none id (number_of slots s.start) ss up (omega arith) in omega arith
      go false e ih = ih

  block-none : (ss : List DefPiece) → starting None (map segment_extent ss) ≡ 0
  block-none [] = refl
  block-none (s ∷ ss) = block-none ss

  cell-apart : (c : Cell) → rises_from slots 0 (seen_cell c).segments ≡ true → BeginApart (cell_extents c)
  cell-apart c r start = subst (λ es. starting start es ≤ 1) (sym (cell-list c)) (go (is_never c.first.end) start)
    where
      go : (u : Bool) (s : Option ℕ) → starting s (cons_option (cond u None (Some (record { start = None; early = false; end = c.first.end }))) (map segment_extent c.segments.items)) ≤ 1
      go true None = let z = block-none c.segments.items in omega arith
      go true (Some id) = once id 0 c.segments.items r
      go false None = let z = block-none c.segments.items in omega arith
      go false (Some id) = once id 0 c.segments.items r

  pub lane-apart : (x : Table) → x.order.slots ≡ slots → InOrder x → (q : Option ℕ) (b : ℕ) → BeginApart (lane_extents x q b)
  lane-apart x same order None b s = omega arith
  lane-apart x same order (Some l) b s = go (slice_get x.rows.rows.items l) (subst (λ ns. rises_from ns 0 (rows_seen x.rows.rows.items l b).segments ≡ true) same (order l b))
    where
      in-cell : (o : Option Cell) → rises_from slots 0 (seen o).segments ≡ true → starting s (some_extents o) ≤ 1
      in-cell None r = omega arith
      in-cell (Some c) r = cell-apart c r s

      go : (o : Option LaneRange) → rises_from slots 0 (elim o as (λ t. Seen) [ None ↦ unseen | Some r ↦ seen_in r.cells.items b ]).segments ≡ true → starting s (some_extents (find_cell b (elim o as (λ t. List Cell) [ None ↦ [] | Some r ↦ r.cells.items ]))) ≤ 1
      go None e = omega arith
      go (Some r) e = in-cell (find_cell b r.cells.items) e

-- of units of which no two are the same, one lane alone has extents in a unit

any-left : (a b : Bool) → (a || b) ≡ false → a ≡ false
any-left true b e = e
any-left false b e = refl

any-right : (a b : Bool) → (a || b) ≡ false → b ≡ false
any-right true b e = absurd (cc)
any-right false b e = e

not-true : (b : Bool) → not b ≡ true → b ≡ false
not-true true e = absurd (cc)
not-true false e = refl

no-unit : (x : Table) (v k : ℕ) (us : List UnitNumber) (u b : ℕ) → list_any (λ n. u == n) (map (λ w. w.0) us) ≡ false → range_extents x v k us u b ≡ []
no-unit x v k [] u b e = refl
no-unit x v k (w ∷ us) u b e =
    ap (λ t. cond t (lane_extents x (number_in x.lanes (owners.Range v k)) b) [] ++ range_extents x v (suc k) us u b) (turned w.0 u (any-left (u == w.0) (list_any (λ n. u == n) (map (λ z. z.0) us)) e))
    ∙ no-unit x v (suc k) us u b (any-right (u == w.0) (list_any (λ n. u == n) (map (λ z. z.0) us)) e)
  where
    turned : (a c : ℕ) → nat_eq c a ≡ false → nat_eq a c ≡ false
    turned a c f = go (nat_eq a c) refl
      where
        go : (t : Bool) → nat_eq a c ≡ t → nat_eq a c ≡ false
        go true g = absurd (let z : nat_eq c a ≡ true = eq-eqb c a (sym (eqb-true a c g)) in cc)
        go false g = g

-- what a range has of a unit is what that lane has
pub lane-alone : (x : Table) (v k : ℕ) (us : List UnitNumber) (u b : ℕ) → are_distinct_numbers (map (λ w. w.0) us) ≡ true → range_extents x v k us u b ≡ lane_extents x (lane_in x.lanes v k us u) b
lane-alone x v k [] u b d = refl
lane-alone x v k (w ∷ us) u b d = go (nat_eq w.0 u) refl (lane-alone x v (suc k) us u b (both-right (not (list_any (λ n. w.0 == n) (map (λ z. z.0) us))) (is_distinct (λ m n. m == n) (map (λ z. z.0) us)) d))
  where
    lone : list_any (λ n. w.0 == n) (map (λ z. z.0) us) ≡ false
    lone = not-true (list_any (λ n. w.0 == n) (map (λ z. z.0) us)) (both-left (not (list_any (λ n. w.0 == n) (map (λ z. z.0) us))) (is_distinct (λ m n. m == n) (map (λ z. z.0) us)) d)

    go : (t : Bool) → nat_eq w.0 u ≡ t → range_extents x v (suc k) us u b ≡ lane_extents x (lane_in x.lanes v (suc k) us u) b
        → cond t (lane_extents x (number_in x.lanes (owners.Range v k)) b) [] ++ range_extents x v (suc k) us u b ≡ lane_extents x (cond t (number_in x.lanes (owners.Range v k)) (lane_in x.lanes v (suc k) us u)) b
    go true e ih =
        ap (λ es. lane_extents x (number_in x.lanes (owners.Range v k)) b ++ es) (no-unit x v (suc k) us u b (ap (λ y. list_any (λ n. y == n) (map (λ z. z.0) us)) (sym (eqb-true w.0 u e)) ∙ lone)) ∙ append-nil (lane_extents x (number_in x.lanes (owners.Range v k)) b)
    go false e ih = ih

pub range-apart : (x : Table) → InOrder x → (v : ℕ) (us : List UnitNumber) (u b : ℕ) → are_distinct_numbers (map (λ w. w.0) us) ≡ true → BeginApart (range_extents x v 0 us u b)
range-apart x order v us u b d s = subst (λ es. starting s es ≤ 1) (sym (lane-alone x v 0 us u b d)) (lane-apart x.order.slots x refl order (lane_in x.lanes v 0 us u) b s)

-- the units of a register

module _ (t : Target) where
  desc : (d : RegDesc) (k : ℕ) → slice_get t.regs k ≡ Some d → is_reg_desc t.version t.units d ≡ true
  desc d k e =
      let all = second_of_both _ _ (first_of_both _ _ (regs_sound t.name t.version t.units t.regs t.reserved t.indexes t.classes t.masks t.opcodes t.sound)) in
      subst (λ (r : RegDesc). is_reg_desc t.version t.units r ≡ true) (get_or_from_slice_get t.regs k d d e) (each_passes (is_reg_desc t.version t.units) t.regs k d (slice_get_within t.regs k d e) all)

  pub units-distinct : (p : Reg) → are_distinct_numbers (map (λ w. w.0) (units_of t p)) ≡ true
  units-distinct p = go (slice_get t.regs p.0) refl
    where
      go : (o : Option RegDesc) → slice_get t.regs p.0 ≡ o → are_distinct_numbers (map (λ w. w.0) (units_in o)) ≡ true
      go None e = refl
      go (Some d) e = second_of_both _ _ (first_of_both _ _ (desc d p.0 e))

  pub units-known : (p : Reg) → list_all (λ w. nat_lt w.0 (length t.units)) (units_of t p) ≡ true
  units-known p = go (slice_get t.regs p.0) refl
    where
      go : (o : Option RegDesc) → slice_get t.regs p.0 ≡ o → list_all (λ w. nat_lt w.0 (length t.units)) (units_in o) ≡ true
      go None e = refl
      go (Some d) e = second_of_both _ _ (first_of_both _ _ (first_of_both _ _ (desc d p.0 e)))
