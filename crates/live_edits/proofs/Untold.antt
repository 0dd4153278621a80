-- Pieces that aren't told, while cells change.
use Rattle.std.proofs.Common.{◌≡◌, ◌∙◌, ◌<◌, ◌≤◌, inl, inr, ℕ, zero, suc, Bool, true, false, cond, length, List, [], ◌∷◌, ◌++◌, Option, None, Some, map, refl, sym, ap, subst, arith, eqb-true}
use Rattle.std.specs.Prelude.{not, slice_get}
use Rattle.std.specs.List.{insert, remove}
use Rattle.std.proofs.lemmas.Option.{slice_get_past}
use Rattle.live_lanes.specs.declared.ask.extent.Extent.{Extent}
use Rattle.live_lanes.specs.declared.row.LaneUse.{LaneUse}
use Rattle.live_lanes.specs.declared.row.LaneRange.{LaneRange}
use Rattle.live_lanes.specs.Entered.{rows_seen}
use Rattle.live_lanes.specs.Table.{Begun, Seen, unseen, seen_in, changed_at}
use Rattle.live_edits.specs.CellChanges.{with_readings, piece_readings, begun_with_readings, begun_with_writing}
use Rattle.live_edits.specs.Renoted.{is_begun_by, piece_begun, piece_joined, rewritten}
use Rattle.live_edits.specs.Told.{begun_extent, begun_left, untold, StaysOrShrinks, KeepsUntold}

pub stays : {xs ys : List Extent} → ys ≡ xs → StaysOrShrinks xs ys
stays e = inl e

pub stays-then : (xs ys zs : List Extent) → StaysOrShrinks xs ys → StaysOrShrinks ys zs → StaysOrShrinks xs zs
stays-then xs ys zs (inl e) (inl f) = inl (f ∙ e)
stays-then xs ys zs (inl e) (inr g) = inr (subst (λ n. length zs < n) (ap length e) g)
stays-then xs ys zs (inr h) (inl f) = inr (subst (λ n. n < length xs) (ap length (sym f)) h)
stays-then xs ys zs (inr h) (inr g) = inr (omega (arith, h, g))

pub kept-same : (told : Option ℕ → Bool) (v w : Seen) → w ≡ v → KeepsUntold told v w
kept-same told v w e = record { first = ap (λ (x : Seen). x.end) e; begun = inl (ap (begun_left told) e) }

pub kept-then : (told : Option ℕ → Bool) (u v w : Seen) → KeepsUntold told u v → KeepsUntold told v w → KeepsUntold told u w
kept-then told u v w p q = record { first = q.first ∙ p.first; begun = stays-then (begun_left told u) (begun_left told v) (begun_left told w) p.begun q.begun }

-- a lane without rows
pub unseen-past : (rows : List LaneRange) (l b : ℕ) → length rows ≤ l → rows_seen rows l b ≡ unseen
unseen-past rows l b h = ap (λ (o : Option LaneRange). elim o [ None ↦ unseen | Some r ↦ seen_in r.cells.items b ]) (slice_get_past rows l h)

-- readings

changed-readings : (rs : List LaneUse) (k : ℕ) (ss : List Begun) → map begun_extent (changed_at k (begun_with_readings rs) ss) ≡ map begun_extent ss
changed-readings rs k [] = refl
changed-readings rs zero (s ∷ ss) = refl
changed-readings rs (suc k) (s ∷ ss) = ap (λ t. begun_extent s ∷ t) (changed-readings rs k ss)

pub readings-extents : (v : Seen) (k : ℕ) (rs : List LaneUse) → map begun_extent (with_readings v k rs).segments ≡ map begun_extent v.segments
readings-extents v zero rs = refl
readings-extents v (suc k) rs = changed-readings rs k v.segments

pub readings-end : (v : Seen) (k : ℕ) (rs : List LaneUse) → (with_readings v k rs).end ≡ v.end
readings-end v zero rs = refl
readings-end v (suc k) rs = refl

-- pieces that come, go or change among others
module _ (told : Option ℕ → Bool) where
  abbrev left : List Begun → List Extent
  left ss = untold told (map begun_extent ss)

  abbrev is_left : Bool → Extent → List Extent → List Extent
  is_left t e es = cond (not t) (e ∷ es) es

  -- one that is told may change
  pub changed-told : (change : Begun → Begun) (k : ℕ) (ss : List Begun) → ((s : Begun) → slice_get ss k ≡ Some s → (told (Some s.start) ≡ true) × (told (Some (change s).start) ≡ true)) → left (changed_at k change ss) ≡ left ss
  changed-told change k [] h = refl
  changed-told change zero (s ∷ ss) h =
      let z = h s refl in
      (λ i. is_left (z.1 i) (begun_extent (change s)) (left ss)) ∙ sym (λ i. is_left (z.0 i) (begun_extent s) (left ss))
  changed-told change (suc k) (s ∷ ss) h = ap (is_left (told (Some s.start)) (begun_extent s)) (changed-told change k ss h)

  -- one that is told may come
  pub inserted-told : (x : Begun) (k : ℕ) (ss : List Begun) → told (Some x.start) ≡ true → left (insert ss k x) ≡ left ss
  inserted-told x zero ss e = λ i. is_left (e i) (begun_extent x) (left ss)
  inserted-told x (suc k) [] e = λ i. is_left (e i) (begun_extent x) []
  inserted-told x (suc k) (s ∷ ss) e = ap (is_left (told (Some s.start)) (begun_extent s)) (inserted-told x k ss e)

  more-shrinks : (t : Bool) (e : Extent) (xs ys : List Extent) → StaysOrShrinks xs ys → StaysOrShrinks (is_left t e xs) (is_left t e ys)
  more-shrinks t e xs ys (inl f) = inl (ap (is_left t e) f)
  more-shrinks true e xs ys (inr h) = inr h
  more-shrinks false e xs ys (inr h) = inr (omega (arith, h))

  gone : (t : Bool) (e : Extent) (xs : List Extent) → StaysOrShrinks (is_left t e xs) xs
  gone true e xs = inl refl
  gone false e xs = inr (omega arith)

  -- one that goes
  pub removed-left : (k : ℕ) (ss : List Begun) → StaysOrShrinks (left ss) (left (remove ss k))
  removed-left k [] = inl (none k)
    where
      none : (k : ℕ) → left (remove [] k) ≡ []
      none zero = refl
      none (suc k) = refl
  removed-left zero (s ∷ ss) = gone (told (Some s.start)) (begun_extent s) (left ss)
  removed-left (suc k) (s ∷ ss) = more-shrinks (told (Some s.start)) (begun_extent s) (left ss) (left (remove ss k)) (removed-left k ss)

  -- the piece at a place is the instruction's
  begun-told : (id : ℕ) (ss : List Begun) (k : ℕ) → is_begun_by id ss k ≡ true → told (Some id) ≡ true → (s : Begun) → slice_get ss k ≡ Some s → told (Some s.start) ≡ true
  begun-told id [] k b t s e = absurd (let z : None ≡ Some s = e in cc)
  begun-told id (x ∷ ss) zero b t s e = let same : x ≡ s = cc in subst (λ y. told (Some y) ≡ true) (sym (eqb-true x.start id b) ∙ ap (λ (y : Begun). y.start) same) t
  begun-told id (x ∷ ss) (suc k) b t s e = begun-told id ss k b t s e

  -- writings of a cell
  module _ (id : ℕ) (v : Seen) (k : ℕ) where
    pub rewritten-left : (early : Bool) (from : Option ℕ) → is_begun_by id v.segments k ≡ true → told (Some id) ≡ true → begun_left told (rewritten k early from v) ≡ begun_left told v
    rewritten-left early from b t = changed-told (begun_with_writing early from) k v.segments (λ s e. let z = begun-told id v.segments k b t s e in (z, z))

    pub begun-piece-left : (early : Bool) (from : Option ℕ) (before behind : List LaneUse) → told (Some id) ≡ true → begun_left told (piece_begun k id early from before behind v) ≡ begun_left told v
    begun-piece-left early from before behind t =
        ap (untold told) (readings-extents _ k before) ∙ inserted-told _ k v.segments t

  pub joined-left : (k : ℕ) (v : Seen) → StaysOrShrinks (begun_left told v) (begun_left told (piece_joined k v))
  joined-left k v =
      let both = piece_readings v.readings v.segments k ++ piece_readings v.readings v.segments (suc k) in
      let joined = (with_readings v k both).segments in
      subst (λ xs. StaysOrShrinks xs (left (remove joined k))) (ap (untold told) (readings-extents v k both)) (removed-left k joined)
