-- By the table, an instruction that doesn't touch a range neither reads nor writes a lane of it.
use Rattle.std.proofs.Common.{◌≡◌, ◌∙◌, ℕ, zero, suc, ◌+◌, ◌<◌, Bool, true, false, cond, ◌||◌, List, [], ◌∷◌, Option, Some, None, map, find, refl, ap, subst}
use Rattle.std.specs.Prelude.{nat_eq, nat_lt, is_some, slice_get, slice_index}
use Rattle.std.specs.List.{list_any}
use Rattle.std.proofs.lemmas.Bool.{ltb-true}
use Rattle.meaning.specs.Live.{Among as Member, here as first, there as later}
use Rattle.instr_effects.specs.declared.row.LaneSpan.{LaneSpan}
use Rattle.instr_effects.specs.declared.owner.Owner.TheVariants as owners
use Rattle.instr_effects.specs.Numbered.{number_in}
use Rattle.instr_effects.specs.Numbers.{row_number_in}
use Rattle.live_lanes.specs.declared.row.LaneUse.{LaneUse}
use Rattle.live_lanes.specs.declared.row.DefPiece.{DefPiece}
use Rattle.live_lanes.specs.declared.row.Cell.{Cell}
use Rattle.live_lanes.specs.declared.row.LaneRange.{LaneRange}
use Rattle.live_lanes.specs.declared.table.Table.{Table}
use Rattle.live_lanes.specs.Entered.{rows_seen}
use Rattle.live_lanes.specs.Extents.{lanes_count}
use Rattle.live_lanes.specs.Table.{Seen, begun, find_cell, piece_at, readings_in, seen, seen_in, unseen, begun_readings, entry_rank}
use Rattle.live_lanes.specs.Touching.{begun_at, begun_by, is_counted, names_cell, names_lane, names_range, names_segment, reads_in, reads_lane, some_of}
use Rattle.live_laws.proofs.Effects.Lists.{any-in}
use Rattle.live_laws.proofs.Touch.Cells.{or-left, or-right}
use Rattle.live_laws.proofs.Touch.Touched.{below-back}
use Rattle.spiller.specs.Walks.{touch_of}
use Rattle.spiller.proofs.Basics.{is-false}

found-any : {X : Type 0} (p : X → Bool) (xs : List X) → is_some (find p xs) ≡ true → list_any p xs ≡ true
found-any p [] h = absurd (cc)
found-any p (x ∷ xs) h = go (p x) refl h (found-any p xs)
  where
    go : (b : Bool) → p x ≡ b → is_some (cond b (Some x) (find p xs)) ≡ true → (is_some (find p xs) ≡ true → list_any p xs ≡ true) → (p x || list_any p xs) ≡ true
    go true e g ih = or-left (p x) (list_any p xs) e
    go false e g ih = or-right (p x) (list_any p xs) (ih g)

-- in one piece, and in one cell

begun-names : (id : ℕ) (ss : List DefPiece) → is_some (begun_by id (map begun ss)) ≡ true → list_any (names_segment id) ss ≡ true
begun-names id [] h = absurd (cc)
begun-names id (s ∷ ss) h = go (nat_eq s.start id) refl h (begun-names id ss)
  where
    go : (b : Bool) → nat_eq s.start id ≡ b → is_some (cond b (Some (begun s)) (begun_by id (map begun ss))) ≡ true → (is_some (begun_by id (map begun ss)) ≡ true → list_any (names_segment id) ss ≡ true) → (names_segment id s || list_any (names_segment id) ss) ≡ true
    go true e g ih = or-left (names_segment id s) _ (or-left (nat_eq s.start id) _ e)
    go false e g ih = or-right (names_segment id s) _ (ih g)

piece-names : (id k : ℕ) (ss : List DefPiece) → is_some (find (λ r. nat_eq r.id id) (begun_readings (slice_get (map begun ss) k))) ≡ true → list_any (names_segment id) ss ≡ true
piece-names id k [] h = absurd (cc)
piece-names id zero (s ∷ ss) h = or-left (names_segment id s) _ (or-right (nat_eq s.start id) _ (found-any (λ (r : LaneUse). nat_eq r.id id) s.piece.readings.items h))
piece-names id (suc k) (s ∷ ss) h = or-right (names_segment id s) _ (piece-names id k ss h)

cell-names : (id n : ℕ) (c : Cell) → is_some (find (λ r. nat_eq r.id id) (readings_in (seen (Some c)) n)) ≡ true → names_cell id c ≡ true
cell-names id zero c h = or-left (reads_in id c.first.readings.items) _ (found-any (λ (r : LaneUse). nat_eq r.id id) c.first.readings.items h)
cell-names id (suc n) c h = or-right (reads_in id c.first.readings.items) _ (piece-names id n c.segments.items h)

cell-in : (b : ℕ) (cs : List Cell) (c : Cell) → find_cell b cs ≡ Some c → Member c cs
cell-in b [] c e = absurd (cc)
cell-in b (d ∷ cs) c e = go (nat_eq d.block b) e (cell-in b cs c)
  where
    go : (q : Bool) → cond q (Some d) (find_cell b cs) ≡ Some c → (find_cell b cs ≡ Some c → Member c cs) → Member c (d ∷ cs)
    go true h ih = let same : d ≡ c = cc in subst (λ z. Member z (d ∷ cs)) same first
    go false h ih = later (ih h)

-- in the row of a lane

-- what holds of no cell that isn't there, and else names the instruction
in-cells : (id b : ℕ) (cs : List Cell) (P : Seen → Bool) → (P unseen ≡ true → ⊥) → ((c : Cell) → P (seen (Some c)) ≡ true → names_cell id c ≡ true) → P (seen_in cs b) ≡ true → list_any (names_cell id) cs ≡ true
in-cells id b cs P none some h = go (find_cell b cs) refl h
  where
    go : (q : Option Cell) → find_cell b cs ≡ q → P (seen q) ≡ true → list_any (names_cell id) cs ≡ true
    go None e g = absurd (none g)
    go (Some c) e g = any-in (names_cell id) c cs (cell-in b cs c e) (some c g)

in-row : (id l b : ℕ) (rows : List LaneRange) (P : Seen → Bool) → (P unseen ≡ true → ⊥) → ((c : Cell) → P (seen (Some c)) ≡ true → names_cell id c ≡ true) → P (rows_seen rows l b) ≡ true → names_lane id rows l ≡ true
in-row id l b rows P none some h = go (slice_get rows l) h
  where
    go : (q : Option LaneRange) → P (elim q [ None ↦ unseen | Some r ↦ seen_in r.cells.items b ]) ≡ true → list_any (names_cell id) (elim q [ None ↦ [] | Some r ↦ r.cells.items ]) ≡ true
    go None g = absurd (none g)
    go (Some r) g = in-cells id b r.cells.items P none some g

written-names : (id l b : ℕ) (rows : List LaneRange) → is_some (begun_by id (rows_seen rows l b).segments) ≡ true → names_lane id rows l ≡ true
written-names id l b rows h = in-row id l b rows (λ v. is_some (begun_by id v.segments)) (λ g. absurd (cc)) (λ c g. or-right (reads_in id c.first.readings.items) _ (begun-names id c.segments.items g)) h

read-names : (id l b n : ℕ) (rows : List LaneRange) → is_some (find (λ r. nat_eq r.id id) (readings_in (rows_seen rows l b) n)) ≡ true → names_lane id rows l ≡ true
read-names id l b n rows h = in-row id l b rows (λ v. is_some (find (λ (r : LaneUse). nat_eq r.id id) (readings_in v n))) (none n) (λ c g. cell-names id n c g) h
  where
    none : (n : ℕ) → is_some (find (λ (r : LaneUse). nat_eq r.id id) (readings_in unseen n)) ≡ true → ⊥
    none zero g = absurd (cc)
    none (suc n) g = absurd (cc)

counted-some : (x : Table) (b : ℕ) (q : Option LaneUse) → is_counted x b q ≡ true → is_some q ≡ true
counted-some x b None h = absurd (cc)
counted-some x b (Some r) h = refl

-- lanes of the range

-- a number of a lane, with its place among the lanes of the range
numbered-lane : (q : Option LaneSpan) (k n : ℕ) → row_number_in q k ≡ Some n → (test : ℕ → Bool) → test n ≡ true → (k < lanes_count q) × (some_of test q ≡ true)
numbered-lane None k n e test h = absurd (cc)
numbered-lane (Some own) k n e test h = go (nat_lt k own.count) refl e
  where
    go : (b : Bool) → nat_lt k own.count ≡ b → cond b (Some (own.first + k)) None ≡ Some n → (k < own.count) × (some_of test (Some own) ≡ true)
    go true g m = let same : own.first + k ≡ n = cc in let below = ltb-true k own.count g in (below, below-back test own.first own.count k below (ap test same ∙ h))
    go false g m = absurd (cc)

module _ (x : Table) (v k id : ℕ) where
  -- a lane that the instruction writes has a number, and the instruction names the range
  pub written-lane : (touch_of x v k id).writes ≡ true → (k < lanes_count (slice_get x.lanes.ranges.items v)) × (names_range x v id ≡ true)
  written-lane h = go (number_in x.lanes (owners.Range v k)) refl h
    where
      go : (q : Option ℕ) → number_in x.lanes (owners.Range v k) ≡ q → is_some (begun_at x q id) ≡ true → (k < lanes_count (slice_get x.lanes.ranges.items v)) × (names_range x v id ≡ true)
      go None e g = absurd (cc)
      go (Some n) e g = numbered-lane (slice_get x.lanes.ranges.items v) k n e (names_lane id x.rows.rows.items) (written-names id n (slice_index x.order.block_of.items id) x.rows.rows.items g)

  read-lane : (touch_of x v k id).reads ≡ true → names_range x v id ≡ true
  read-lane h = go (number_in x.lanes (owners.Range v k)) refl h
    where
      go : (q : Option ℕ) → number_in x.lanes (owners.Range v k) ≡ q → reads_lane x q id ≡ true → names_range x v id ≡ true
      go None e g = absurd (cc)
      go (Some n) e g =
          let b = slice_index x.order.block_of.items id in
          let z = numbered-lane (slice_get x.lanes.ranges.items v) k n e (names_lane id x.rows.rows.items) (read-names id n b (piece_at x.order.slots (entry_rank x.order.slots id) (rows_seen x.rows.rows.items n b).segments) x.rows.rows.items (counted-some x b _ g)) in
          z.1

  pub unnamed-writes : names_range x v id ≡ false → (touch_of x v k id).writes ≡ false
  unnamed-writes e = is-false (touch_of x v k id).writes (λ h. let z = (written-lane h).1 in absurd (cc))

  pub unnamed-reads : names_range x v id ≡ false → (touch_of x v k id).reads ≡ false
  unnamed-reads e = is-false (touch_of x v k id).reads (λ h. let z = read-lane h in absurd (cc))
