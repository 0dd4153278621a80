-- What a range's offers ask at points of a block, by its spans and by what is held: along stretches and at points.
use Rattle.std.proofs.Common.{◌≡◌, ◌∙◌, ◌⊎◌, inl, inr, ℕ, zero, suc, ◌+◌, ◌-◌, ◌*◌, ◌<◌, ◌≤◌, Bool, true, false, cond, List, [], ◌∷◌, refl, sym, ap, subst, arith, eq-eqb, length, map, max, Option, None, Some}
use Rattle.std.specs.Prelude.{nat_le, nat_eq, filter, flat_map, slice_get, slice_index, not, ◌&&◌, ◌||◌}
use Rattle.std.specs.List.{list_all, list_any}
use Rattle.std.proofs.lemmas.Bool.{leb-true, le-leb, false≢true, true≢false, and_parts, and_from, or_left, or_right, or_from, or_cases, cases_lt}
use Rattle.target_base.specs.declared.types.Unit.{Unit as UnitNumber}
use Rattle.target_base.specs.declared.types.Reg.{Reg}
use Rattle.target_base.specs.declared.types.Target.{Target}
use Rattle.target_base.specs.Registers.{units_of}
use Rattle.meaning.specs.Live.{Among, here, there}
use Rattle.mir_func.specs.declared.func.Instr.{Instr}
use Rattle.mir_func.specs.declared.func.Block.{Block}
use Rattle.mir_func.specs.Value.{Function}
use Rattle.mir_meaning.specs.Points.{Point, Start, Entry, Exit, block_points, touches}
use Rattle.instr_effects.specs.declared.row.LaneSpan.{LaneSpan}
use Rattle.live_lanes.specs.declared.ask.extent.Stretch.{Stretch}
use Rattle.live_lanes.specs.declared.row.Cell.{Cell}
use Rattle.live_lanes.specs.declared.row.LaneRange.{LaneRange}
use Rattle.live_lanes.specs.declared.row.PieceEnd.{PieceEnd}
use Rattle.live_lanes.specs.declared.row.PieceEnd.TheVariants as ends
use Rattle.live_lanes.specs.declared.row.DefPiece.{DefPiece}
use Rattle.live_lanes.specs.declared.table.Table.{Table}
use Rattle.mir_meaning.specs.Paths.{has}
use Rattle.live_lanes.specs.Graph.{is_live}
use Rattle.live_lanes.specs.Table.{Numbers, Begun, Seen, unseen, seen, seen_in, seen_cell, begun, find_cell, entry_rank, exit_rank, end_rank, rises_from}
use Rattle.live_lanes.specs.Entered.{rows_seen, cells_of, causes}
use Rattle.live_lanes.specs.Ordered.{ids_of, AreHomes}
use Rattle.live_lanes.specs.Held.{held_at, hold_rank}
use Rattle.live_lanes.specs.Extents.{is_met_in, is_met, first_rank, last_rank}
use Rattle.live_lanes.specs.Touching.{FindsInstrs, some_below, some_of, some_lane, names_range, names_lane, names_cell, names_segment, reads_in, AreTouched}
use Rattle.live_lanes.specs.Tells.{touching_ids}
use Rattle.live_lanes.proofs.Extents.{unseen-none}
use Rattle.interference.specs.declared.held.RangeExtent.{RangeExtent}
use Rattle.interference.specs.declared.matrix.Matrix.{Matrix}
use Rattle.interference.specs.Clashes.{is_held, is_taken, holds}
use Rattle.interference.specs.Clashes.{touches as overlaps}
use Rattle.split_choose.specs.Offers.{View, In, live_at, borders, clashes_not}
use Rattle.split_choose.specs.Seen.{at_home, home_of, rank_of, seen_point, seen_held, only, view_of, begins_here, starts_here, FindsPlaces, FindsPoints}
use Rattle.split_choose.specs.Spanned.{is_covered, is_rank_in, is_cell, is_in_block, IsSpan, begins_at_point}
use Rattle.split_choose.proofs.Covers.{among-cases, met-wider, met-point, only-held}
use Rattle.split_choose.proofs.Spread.{IsPointOf, entry, exit, point-of, instr_points, place-among, has-cases}
use Rattle.split_choose.proofs.Clearing.{all-of, all-among, some-among, some-of, both-ways, to-no, from-no}
use Rattle.split_choose.proofs.Between.{entry-rank-in, exit-rank-in}

-- lanes of a range

-- a lane of those that pass, and the tests that it passes
pub record OneOf (Some_pass : (ℕ → Bool) → Bool) (g : ℕ → Bool) : Type 0 where
  pub lane : ℕ
  pub passes : g lane ≡ true
  pub every : (f : ℕ → Bool) → f lane ≡ true → Some_pass f ≡ true

below-one : (first n : ℕ) (g : ℕ → Bool) → some_below g first n ≡ true → OneOf (λ f. some_below f first n) g
below-one first zero g h = absurd (false≢true h)
below-one first (suc n) g h = go (or_cases (g (first + n)) (some_below g first n) h) (below-one first n g)
  where
    later : OneOf (λ f. some_below f first n) g → OneOf (λ f. some_below f first (suc n)) g
    later o = record { lane = o.lane; passes = o.passes; every = λ f p. or_right (f (first + n)) (some_below f first n) (o.every f p) }

    go : (g (first + n) ≡ true) ⊎ (some_below g first n ≡ true) → (some_below g first n ≡ true → OneOf (λ f. some_below f first n) g) → OneOf (λ f. some_below f first (suc n)) g
    go (inl a) ih = record { lane = first + n; passes = a; every = λ f p. or_left (f (first + n)) (some_below f first n) p }
    go (inr a) ih = later (ih a)

of-one : (o : Option LaneSpan) (g : ℕ → Bool) → some_of g o ≡ true → OneOf (λ f. some_of f o) g
of-one None g h = absurd (false≢true h)
of-one (Some own) g h = below-one own.first own.count g h

pub lane-one : (x : Table) (v : ℕ) (g : ℕ → Bool) → some_lane x v g ≡ true → OneOf (some_lane x v) g
lane-one x v g h = of-one (slice_get x.lanes.ranges.items v) g h

pub lane-same : (x : Table) (v : ℕ) (f g : ℕ → Bool) → ((l : ℕ) → f l ≡ g l) → some_lane x v f ≡ some_lane x v g
lane-same x v f g same = both-ways (some_lane x v f) (some_lane x v g)
    (λ h. let o = lane-one x v f h in o.every g (sym (same o.lane) ∙ o.passes))
    (λ h. let o = lane-one x v g h in o.every f (same o.lane ∙ o.passes))

-- a lane in a block: by its cell, or not there

pub cell-or-not : (rows : List LaneRange) (l k : ℕ) → ((c : Cell) × (rows_seen rows l k ≡ seen_cell c) × (find_cell k (cells_of rows l) ≡ Some c)) ⊎ (rows_seen rows l k ≡ unseen)
cell-or-not rows l k = by_row (slice_get rows l) refl
  where
    by_cell : (r : LaneRange) → slice_get rows l ≡ Some r → (o : Option Cell) → find_cell k r.cells.items ≡ o → ((c : Cell) × (rows_seen rows l k ≡ seen_cell c) × (find_cell k (cells_of rows l) ≡ Some c)) ⊎ (rows_seen rows l k ≡ unseen)
    by_cell r e None g = inr (ap (λ (o : Option LaneRange). elim o [ None ↦ unseen | Some s ↦ seen_in s.cells.items k ]) e ∙ ap seen g)
    by_cell r e (Some c) g = inl (c, ap (λ (o : Option LaneRange). elim o [ None ↦ unseen | Some s ↦ seen_in s.cells.items k ]) e ∙ ap seen g, ap (λ (o : Option LaneRange). find_cell k (elim o [ None ↦ [] | Some s ↦ s.cells.items ])) e ∙ g)

    by_row : (o : Option LaneRange) → slice_get rows l ≡ o → ((c : Cell) × (rows_seen rows l k ≡ seen_cell c) × (find_cell k (cells_of rows l) ≡ Some c)) ⊎ (rows_seen rows l k ≡ unseen)
    by_row None e = inr (ap (λ (o : Option LaneRange). elim o [ None ↦ unseen | Some s ↦ seen_in s.cells.items k ]) e)
    by_row (Some r) e = by_cell r e (find_cell k r.cells.items) refl

pub cell-among : (k : ℕ) (cs : List Cell) (c : Cell) → find_cell k cs ≡ Some c → Among c cs
cell-among k [] c e = absurd (cc)
cell-among k (d ∷ cs) c e = go (nat_eq d.block k) refl (cell-among k cs c)
  where
    go : (b : Bool) → nat_eq d.block k ≡ b → (find_cell k cs ≡ Some c → Among c cs) → Among c (d ∷ cs)
    go true f ih = let q : Some d ≡ Some c = sym (ap (λ b. cond b (Some d) (find_cell k cs)) f) ∙ e in let same : d ≡ c = cc in let P : Cell → Type 0 = λ y. Among c (y ∷ cs) in subst P (sym same) here
    go false f ih = there (ih (sym (ap (λ b. cond b (Some d) (find_cell k cs)) f) ∙ e))

-- ranks of a block

-- where pieces begin with instructions of it, they begin at ranks of it
hold-rank-in : (slots : Numbers) (is : List Instr) (s : Begun) → has s.start (ids_of is) ≡ true → is_rank_in slots is (hold_rank slots s) ≡ true
hold-rank-in slots is s h = go s.early
  where
    go : (u : Bool) → is_rank_in slots is (cond u (entry_rank slots s.start) (exit_rank slots s.start)) ≡ true
    go true = entry-rank-in slots is s.start h
    go false = exit-rank-in slots is s.start h

seen-begun : (slots : Numbers) (is : List Instr) (w : Seen) (j : ℕ) (s : Begun) → begins_here is w ≡ true → slice_get w.segments j ≡ Some s → is_rank_in slots is (hold_rank slots s) ≡ true
seen-begun slots is w j s h e = hold-rank-in slots is s (all-among (λ (p : Begun). has p.start (ids_of is)) w.segments s h (place-among s w.segments j e))

-- what is held begins at one of them too, and isn't over before
held-rank-in : (slots : Numbers) (is : List Instr) (h : RangeExtent) → starts_here is h ≡ true → is_rank_in slots is (first_rank slots h.extent) ≡ true
held-rank-in slots is h e = go h.extent.start e
  where
    by_early : (id : ℕ) → has id (ids_of is) ≡ true → (u : Bool) → is_rank_in slots is (cond u (entry_rank slots id) (exit_rank slots id)) ≡ true
    by_early id k true = entry-rank-in slots is id k
    by_early id k false = exit-rank-in slots is id k

    go : (o : Option ℕ) → elim o [ None ↦ true | Some id ↦ has id (ids_of is) ] ≡ true → is_rank_in slots is (elim o [ None ↦ 0 | Some id ↦ cond h.extent.early (entry_rank slots id) (exit_rank slots id) ]) ≡ true
    go None k = refl
    go (Some id) k = by_early id k h.extent.early

held-lasts : (slots : Numbers) (h : RangeExtent) → first_rank slots h.extent ≤ last_rank slots h.extent
held-lasts slots h = go h.extent.start
  where
    by_early : (id : ℕ) → (u : Bool) → cond u (entry_rank slots id) (exit_rank slots id) ≤ max (end_rank slots h.extent.end) (exit_rank slots id)
    by_early id true = omega arith
    by_early id false = omega arith

    go : (o : Option ℕ) → elim o [ None ↦ 0 | Some id ↦ cond h.extent.early (entry_rank slots id) (exit_rank slots id) ] ≤ elim o [ None ↦ end_rank slots h.extent.end | Some id ↦ max (end_rank slots h.extent.end) (exit_rank slots id) ]
    go None = let z : 0 ≤ end_rank slots h.extent.end = omega arith in z
    go (Some id) = by_early id h.extent.early

-- what is found in a stretch at one of the ranks of the block
abbrev pub FoundAt : Numbers → List Instr → Stretch → (Stretch → Bool) → Type 0
FoundAt slots is at test = (r : ℕ) × (is_rank_in slots is r ≡ true) × (at.first ≤ r) × (r ≤ at.last) × (test (only r) ≡ true)

module _ (m : Matrix) (v k : ℕ) (b : Block) (at_k : slice_get m.live.func.blocks k ≡ Some b) (finds : FindsPoints m) where
  abbrev slots : Numbers
  slots = m.live.table.order.slots

  abbrev rows : List LaneRange
  rows = m.live.table.rows.rows.items

  -- a lane

  pub lane-wider : (u r : ℕ) (at : Stretch) → at.first ≤ r → r ≤ at.last → is_met m.live.table u k (only r) ≡ true → is_met m.live.table u k at ≡ true
  lane-wider u r at lo hi h = met-wider slots (rows_seen rows u k) r at lo hi h

  pub lane-meets : (u : ℕ) (at : Stretch) → at.first ≤ at.last → is_rank_in slots b.instrs at.first ≡ true → is_met m.live.table u k at ≡ true → FoundAt slots b.instrs at (is_met m.live.table u k)
  lane-meets u at le first h = go (cell-or-not rows u k)
    where
      by_cell : (c : Cell) → rows_seen rows u k ≡ seen_cell c → FoundAt slots b.instrs at (is_met_in slots (seen_cell c))
      by_cell c e =
          met-point slots c (ap (λ (w : Seen). rises_from slots 0 w.segments) (sym e) ∙ finds.order.table u k) (λ r. is_rank_in slots b.instrs r ≡ true) at le first
          (λ j s g. seen-begun slots b.instrs (seen_cell c) j s (ap (begins_here b.instrs) (sym e) ∙ finds.begun u k b at_k) g)
          (ap (λ w. is_met_in slots w at) (sym e) ∙ h)

      go : ((c : Cell) × (rows_seen rows u k ≡ seen_cell c) × (find_cell k (cells_of rows u) ≡ Some c)) ⊎ (rows_seen rows u k ≡ unseen) → FoundAt slots b.instrs at (is_met m.live.table u k)
      go (inl (c, e, f)) = let P : Seen → Type 0 = λ w. FoundAt slots b.instrs at (is_met_in slots w) in subst P (sym e) (by_cell c e)
      go (inr e) = absurd (true≢false (sym h ∙ (ap (λ w. is_met_in slots w at) e ∙ unseen-none slots at)))

  -- other ranges

  taken-wider : (hs : List RangeExtent) (r : ℕ) (at : Stretch) → at.first ≤ r → r ≤ at.last → is_taken slots hs v (only r) ≡ true → is_taken slots hs v at ≡ true
  taken-wider hs r at lo hi h =
      let o = some-among (λ (x : RangeExtent). not (nat_eq x.range v) && overlaps slots (only r) x) hs h in
      let p = and_parts (not (nat_eq o.0.range v)) (overlaps slots (only r) o.0) o.2 in
      let q = and_parts (nat_le (first_rank slots o.0.extent) r) (nat_le r (last_rank slots o.0.extent)) p.1 in
      let a : first_rank slots o.0.extent ≤ r = leb-true (first_rank slots o.0.extent) r q.0 in
      let d : r ≤ last_rank slots o.0.extent = leb-true r (last_rank slots o.0.extent) q.1 in
      some-of (λ (x : RangeExtent). not (nat_eq x.range v) && overlaps slots at x) hs o.0 o.1
      (and_from (not (nat_eq o.0.range v)) (overlaps slots at o.0) p.0
      (and_from (nat_le (first_rank slots o.0.extent) at.last) (nat_le at.first (last_rank slots o.0.extent))
      (le-leb (first_rank slots o.0.extent) at.last (omega arith)) (le-leb at.first (last_rank slots o.0.extent) (omega arith))))

  taken-meets : (hs : List RangeExtent) (at : Stretch) → at.first ≤ at.last → is_rank_in slots b.instrs at.first ≡ true → list_all (starts_here b.instrs) hs ≡ true → is_taken slots hs v at ≡ true → FoundAt slots b.instrs at (is_taken slots hs v)
  taken-meets hs at le first begun h = by_held o.0 o.1 p.0 a d (cases_lt at.first (first_rank slots o.0.extent))
    where
      o : (x : RangeExtent) × Among x hs × ((not (nat_eq x.range v) && overlaps slots at x) ≡ true)
      o = some-among (λ (x : RangeExtent). not (nat_eq x.range v) && overlaps slots at x) hs h

      p : (not (nat_eq o.0.range v) ≡ true) × (overlaps slots at o.0 ≡ true)
      p = and_parts (not (nat_eq o.0.range v)) (overlaps slots at o.0) o.2

      a : first_rank slots o.0.extent ≤ at.last
      a = leb-true (first_rank slots o.0.extent) at.last (and_parts (nat_le (first_rank slots o.0.extent) at.last) (nat_le at.first (last_rank slots o.0.extent)) p.1).0

      d : at.first ≤ last_rank slots o.0.extent
      d = leb-true at.first (last_rank slots o.0.extent) (and_parts (nat_le (first_rank slots o.0.extent) at.last) (nat_le at.first (last_rank slots o.0.extent)) p.1).1

      taken : (x : RangeExtent) → Among x hs → not (nat_eq x.range v) ≡ true → (r : ℕ) → first_rank slots x.extent ≤ r → r ≤ last_rank slots x.extent → is_taken slots hs v (only r) ≡ true
      taken x n other r lo hi =
          some-of (λ (y : RangeExtent). not (nat_eq y.range v) && overlaps slots (only r) y) hs x n
          (and_from (not (nat_eq x.range v)) (overlaps slots (only r) x) other
          (and_from (nat_le (first_rank slots x.extent) r) (nat_le r (last_rank slots x.extent)) (le-leb (first_rank slots x.extent) r lo) (le-leb r (last_rank slots x.extent) hi)))

      by_held : (x : RangeExtent) → Among x hs → not (nat_eq x.range v) ≡ true → first_rank slots x.extent ≤ at.last → at.first ≤ last_rank slots x.extent → (at.first < first_rank slots x.extent) ⊎ (first_rank slots x.extent ≤ at.first) → FoundAt slots b.instrs at (is_taken slots hs v)
      by_held x n other f l (inl lt) = (first_rank slots x.extent, held-rank-in slots b.instrs x (all-among (starts_here b.instrs) hs x begun n), omega arith, f, taken x n other (first_rank slots x.extent) (omega arith) (held-lasts slots x))
      by_held x n other f l (inr ge) = (at.first, first, omega arith, le, taken x n other at.first ge l)

  -- a unit

  pub held-wider : (u : UnitNumber) (r : ℕ) (at : Stretch) → at.first ≤ r → r ≤ at.last → is_held m u.0 v k (only r) ≡ true → is_held m u.0 v k at ≡ true
  held-wider u r at lo hi h = go (or_cases (is_met m.live.table u.0 k (only r)) (is_taken slots (holds m u.0 k) v (only r)) h)
    where
      go : (is_met m.live.table u.0 k (only r) ≡ true) ⊎ (is_taken slots (holds m u.0 k) v (only r) ≡ true) → is_held m u.0 v k at ≡ true
      go (inl e) = or_left (is_met m.live.table u.0 k at) (is_taken slots (holds m u.0 k) v at) (lane-wider u.0 r at lo hi e)
      go (inr e) = or_right (is_met m.live.table u.0 k at) (is_taken slots (holds m u.0 k) v at) (taken-wider (holds m u.0 k) r at lo hi e)

  pub held-meets : (u : UnitNumber) (at : Stretch) → at.first ≤ at.last → is_rank_in slots b.instrs at.first ≡ true → is_held m u.0 v k at ≡ true → FoundAt slots b.instrs at (λ s. is_held m u.0 v k s)
  held-meets u at le first h = go (or_cases (is_met m.live.table u.0 k at) (is_taken slots (holds m u.0 k) v at) h)
    where
      met : FoundAt slots b.instrs at (is_met m.live.table u.0 k) → FoundAt slots b.instrs at (λ s. is_held m u.0 v k s)
      met (r, i, lo, hi, e) = (r, i, lo, hi, or_left (is_met m.live.table u.0 k (only r)) (is_taken slots (holds m u.0 k) v (only r)) e)

      taken : FoundAt slots b.instrs at (is_taken slots (holds m u.0 k) v) → FoundAt slots b.instrs at (λ s. is_held m u.0 v k s)
      taken (r, i, lo, hi, e) = (r, i, lo, hi, or_right (is_met m.live.table u.0 k (only r)) (is_taken slots (holds m u.0 k) v (only r)) e)

      go : (is_met m.live.table u.0 k at ≡ true) ⊎ (is_taken slots (holds m u.0 k) v at ≡ true) → FoundAt slots b.instrs at (λ s. is_held m u.0 v k s)
      go (inl e) = met (lane-meets u.0 at le first e)
      go (inr e) = taken (taken-meets (holds m u.0 k) at le first (finds.held u.0 k b at_k) e)

  -- points of the block

  module _ (places : FindsPlaces m.live.target m.live.func m.live.table v) (parents : List ℕ) where
    pub home : (p : Point) → Among p (block_points b) → home_of m.live.table m.live.func.blocks p ≡ Some k
    home p n = go (among-cases p (Start b.number) (instr_points b.instrs) n)
      where
        at_instr : IsPointOf b.instrs p → home_of m.live.table m.live.func.blocks p ≡ Some k
        at_instr (entry id h e) = ap (home_of m.live.table m.live.func.blocks) e ∙ ap (λ j. Some j) (places.instrs.homes k b id at_k h)
        at_instr (exit id h e) = ap (home_of m.live.table m.live.func.blocks) e ∙ ap (λ j. Some j) (places.instrs.homes k b id at_k h)

        go : (p ≡ Start b.number) ⊎ Among p (instr_points b.instrs) → home_of m.live.table m.live.func.blocks p ≡ Some k
        go (inl e) = ap (home_of m.live.table m.live.func.blocks) e ∙ places.placed k b at_k
        go (inr i) = at_instr (point-of p b.instrs i)

    -- the range is there just where some lane of it is
    abbrev pub lane_at : ℕ → Bool
    lane_at r = some_lane m.live.table v (λ l. held_at slots (rows_seen rows l k) r)

    pub point-is : (p : Point) → Among p (block_points b) → seen_point m.live.table m.live.func.blocks v p ≡ lane_at (rank_of slots p)
    point-is p n = ap (at_home (λ j. some_lane m.live.table v (λ l. held_at slots (rows_seen rows l j) (rank_of slots p)))) (home p n)

    pub held-is : (p : Point) (u : UnitNumber) → Among p (block_points b) → seen_held m v (u, p) ≡ is_held m u.0 v k (only (rank_of slots p))
    held-is p u n = ap (at_home (λ j. is_held m u.0 v j (only (rank_of slots p)))) (home p n)

    units-same : (p : Point) → Among p (block_points b) → (us : List UnitNumber) → list_all (λ u. not (seen_held m v (u, p))) us ≡ list_all (λ (u : UnitNumber). not (is_held m u.0 v k (only (rank_of slots p)))) us
    units-same p n [] = refl
    units-same p n (u ∷ us) =
        ap (λ c. not c && list_all (λ (w : UnitNumber). not (seen_held m v (w, p))) us) (held-is p u n)
        ∙ ap (λ c. not (is_held m u.0 v k (only (rank_of slots p))) && c) (units-same p n us)

    -- so a point of the range clashes by what is held at its rank
    pub clashes-is : (q : Reg) (p : Point) (inside : Bool) → Among p (block_points b) → lane_at (rank_of slots p) ≡ inside
        → clashes_not m.live.target m.live.func v (view_of m v parents) q p ≡ (not inside || list_all (λ (u : UnitNumber). not (is_held m u.0 v k (only (rank_of slots p)))) (units_of m.live.target q))
    clashes-is q p inside n e =
        ap (λ c. not c || list_all (λ u. not (seen_held m v (u, p))) (units_of m.live.target q)) (point-is p n ∙ e)
        ∙ ap (λ c. not inside || c) (units-same p n (units_of m.live.target q))

    -- where no lane of it is anywhere in the block, none of its points clashes
    pub all-clear : (q : Reg) → ((r : ℕ) → lane_at r ≡ false) → (ps : List Point) → ((p : Point) → Among p ps → Among p (block_points b)) → list_all (clashes_not m.live.target m.live.func v (view_of m v parents) q) ps ≡ true
    all-clear q none ps sub = all-of (clashes_not m.live.target m.live.func v (view_of m v parents) q) ps (λ p n. clashes-is q p false (sub p n) (none (rank_of slots p)))
