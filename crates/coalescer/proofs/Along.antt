-- Writings away from the points of a lane lose no value of it.
use Rattle.std.proofs.Common.{◌≡◌, ◌∙◌, ◌&&◌, ◌||◌, ◌∷◌, ◌*◌, ◌-◌, ◌<◌, ◌≤◌, not, ℕ, zero, suc, Bool, true, false, cond, max, List, [], Some, length, take, get_or, refl, sym, ap, subst, arith, eqb-true}
use Rattle.std.specs.Prelude.{nat_eq, nat_le, slice_get}
use Rattle.std.specs.List.{list_all}
use Rattle.std.proofs.lemmas.Bool.{leb-true, le-leb, ltb-true}
use Rattle.slot_index.specs.Order.{number_of}
use Rattle.meaning.specs.Live.{Among as Member, here as first, there as later}
use Rattle.live_lanes.specs.declared.row.PieceEnd.{PieceEnd}
use Rattle.live_lanes.specs.declared.ask.extent.Stretch.{Stretch}
use Rattle.live_lanes.specs.Table.{Begun, Numbers, Seen, begun_end, end_in, end_rank, entry_rank, exit_rank, is_begun, leading, piece_at, rises_from}
use Rattle.live_lanes.specs.Held.{begins_at, exits_at}
use Rattle.live_lanes.specs.Reach.{is_never, reaches, seen_at}
use Rattle.live_lanes.proofs.Cells.{both-left, both-right}
use Rattle.live_laws.proofs.Effects.Lists.{all-of}
use Rattle.coalescer.specs.Asked.{first_writing, is_apart, is_within, is_written_at, piece_stretch, segment_stretch}

-- the piece in which a point lies is there

leading-within : {X : Type 0} (p : X → Bool) (xs : List X) (k : ℕ) → leading p xs ≡ suc k → (x : X) × (slice_get xs k ≡ Some x) × (p x ≡ true)
leading-within p [] k e = absurd (cc)
leading-within {X = X} p (x ∷ xs) k e = go (p x) refl e (leading-within p xs)
  where
    next : (m : ℕ) → leading p xs ≡ m → leading p xs ≡ k → ((j : ℕ) → leading p xs ≡ suc j → (y : X) × (slice_get xs j ≡ Some y) × (p y ≡ true)) → p x ≡ true → (n : ℕ) → n ≡ k → (y : X) × (slice_get (x ∷ xs) n ≡ Some y) × (p y ≡ true)
    next m e f ih h zero g = (x, refl, h)
    next m e f ih h (suc n) g = ih n (f ∙ sym g)

    go : (u : Bool) → p x ≡ u → cond u (suc (leading p xs)) 0 ≡ suc k → ((j : ℕ) → leading p xs ≡ suc j → (y : X) × (slice_get xs j ≡ Some y) × (p y ≡ true)) → (y : X) × (slice_get (x ∷ xs) k ≡ Some y) × (p y ≡ true)
    go true h g ih = next (leading p xs) refl (let q : leading p xs ≡ k = omega (arith, g) in q) ih h k refl
    go false h g ih = absurd (cc)

zero-not : (k : ℕ) → nat_eq (suc k) 0 ≡ false
zero-not k = go (nat_eq (suc k) 0) refl
  where
    go : (u : Bool) → nat_eq (suc k) 0 ≡ u → u ≡ false
    go true e = absurd (let z = eqb-true (suc k) 0 e in omega (arith, z))
    go false e = refl

slice-short : {X : Type 0} (xs : List X) (k : ℕ) (x : X) → slice_get xs k ≡ Some x → k < length xs
slice-short [] k x e = absurd (cc)
slice-short (y ∷ xs) zero x e = omega arith
slice-short (y ∷ xs) (suc k) x e = let h = slice-short xs k x e in omega (arith, h)

module _ (slots : Numbers) (v : Seen) where
  -- the number of a piece that has the entry or the exit of the writing
  Covers : Begun → Type 0
  Covers s = (index : ℕ) × (index ≤ length v.segments) × (is_within slots (piece_stretch slots v index) s ≡ true)

  covers-of : (index : ℕ) (s : Begun) → index ≤ length v.segments → (piece_stretch slots v index).first ≤ exit_rank slots s.start → entry_rank slots s.start ≤ (piece_stretch slots v index).last → Covers s
  unfolding Covers
  covers-of index s h lo hi = (index, h, (λ k. le-leb (piece_stretch slots v index).first (exit_rank slots s.start) lo k && le-leb (entry_rank slots s.start) (piece_stretch slots v index).last hi k))

  reach-le : (e : PieceEnd) (at : ℕ) → reaches slots e at ≡ true → at ≤ end_rank slots e
  reach-le e at h = leb-true at (end_rank slots e) (both-right (not (is_never e)) (nat_le at (end_rank slots e)) h)

  -- where the lane is live at a point, the piece of the point has it
  covers-live : (at : ℕ) (s : Begun) → at ≤ exit_rank slots s.start → entry_rank slots s.start ≤ at → seen_at slots v at ≡ true → Covers s
  covers-live at s lo hi live = go (piece_at slots at v.segments) refl live
    where
      go : (n : ℕ) → piece_at slots at v.segments ≡ n → reaches slots (end_in v n) at ≡ true → Covers s
      go zero e h = let l = reach-le v.end at h in covers-of 0 s (omega arith) (omega arith) (omega (arith, l, hi))
      go (suc k) e h =
          let z = leading-within (is_begun slots at) v.segments k e in
          let short = slice-short v.segments k z.0 z.1 in
          let end : end_rank slots (end_in v (suc k)) ≡ end_rank slots z.0.end = ap (λ q. end_rank slots (begun_end q)) z.1 in
          let l = reach-le (end_in v (suc k)) at h in
          let begun : exit_rank slots z.0.start ≤ at = leb-true (exit_rank slots z.0.start) at z.2 in
          let one : suc k - 1 ≡ k = omega arith in
          let same : piece_stretch slots v (suc k) ≡ record { first = exit_rank slots z.0.start; last = max (end_rank slots z.0.end) (exit_rank slots z.0.start) } = ap (λ (u : Bool). cond u (record { first = 0; last = end_rank slots v.end }) (segment_stretch slots (slice_get v.segments (suc k - 1)))) (zero-not k) ∙ ap (λ q. segment_stretch slots q) (ap (slice_get v.segments) one ∙ z.1) in
          let a : (piece_stretch slots v (suc k)).first ≤ exit_rank slots s.start = subst (λ (p : Stretch). p.first ≤ exit_rank slots s.start) (sym same) (omega (arith, begun, lo)) in
          let b : entry_rank slots s.start ≤ (piece_stretch slots v (suc k)).last = subst (λ (p : Stretch). entry_rank slots s.start ≤ p.last) (sym same) (omega (arith, end, l, hi)) in
          covers-of (suc k) s (omega (arith, short)) a b

  covers-written : (s : Begun) → is_written_at slots v (exit_rank slots s.start) ≡ true → Covers s
  covers-written s w = go (piece_at slots (exit_rank slots s.start) v.segments) refl w
    where
      go : (n : ℕ) → piece_at slots (exit_rank slots s.start) v.segments ≡ n → begins_at slots (exit_rank slots s.start) v.segments n ≡ true → Covers s
      go zero e h = absurd (cc)
      go (suc k) e h =
          let z = leading-within (is_begun slots (exit_rank slots s.start)) v.segments k e in
          let short = slice-short v.segments k z.0 z.1 in
          let own : exit_rank slots z.0.start ≡ exit_rank slots s.start = eqb-true (exit_rank slots z.0.start) (exit_rank slots s.start) (sym (ap (exits_at slots (exit_rank slots s.start)) z.1) ∙ h) in
          let one : suc k - 1 ≡ k = omega arith in
          let same : piece_stretch slots v (suc k) ≡ record { first = exit_rank slots z.0.start; last = max (end_rank slots z.0.end) (exit_rank slots z.0.start) } = ap (λ (u : Bool). cond u (record { first = 0; last = end_rank slots v.end }) (segment_stretch slots (slice_get v.segments (suc k - 1)))) (zero-not k) ∙ ap (λ q. segment_stretch slots q) (ap (slice_get v.segments) one ∙ z.1) in
          let a : (piece_stretch slots v (suc k)).first ≤ exit_rank slots s.start = subst (λ (p : Stretch). p.first ≤ exit_rank slots s.start) (sym same) (omega (arith, own)) in
          let b : entry_rank slots s.start ≤ (piece_stretch slots v (suc k)).last = subst (λ (p : Stretch). entry_rank slots s.start ≤ p.last) (sym same) (omega (arith, own)) in
          covers-of (suc k) s (omega (arith, short)) a b

  -- a writing that isn't apart from the lane is at one of its pieces
  covers : (s : Begun) → is_apart slots v s ≡ false → Covers s
  covers s h = go (seen_at slots v (exit_rank slots s.start)) (is_written_at slots v (exit_rank slots s.start)) s.early (seen_at slots v (entry_rank slots s.start)) refl refl refl h
    where
      go : (a b e d : Bool) → seen_at slots v (exit_rank slots s.start) ≡ a → is_written_at slots v (exit_rank slots s.start) ≡ b → seen_at slots v (entry_rank slots s.start) ≡ d → (not a && not b && not (e && d)) ≡ false → Covers s
      go true b e d p q r g = covers-live (exit_rank slots s.start) s (omega arith) (omega arith) p
      go false true e d p q r g = covers-written s q
      go false false true true p q r g = covers-live (entry_rank slots s.start) s (omega arith) (omega arith) r
      go false false true false p q r g = absurd (cc)
      go false false false d p q r g = absurd (cc)

  -- so where each writing at a piece passes a test that all pass that are apart, all pass it
  pub all-by-pieces : (test : Begun → Bool) → ((s : Begun) → is_apart slots v s ≡ true → test s ≡ true) → (ss : List Begun)
      → ((index : ℕ) → index ≤ length v.segments → list_all (λ s. not (is_within slots (piece_stretch slots v index) s) || test s) ss ≡ true) → list_all test ss ≡ true
  unfolding Covers
  all-by-pieces test passes ss h = each ss (λ s m. m)
    where
      one : (s : Begun) → Member s ss → test s ≡ true
      one s m = by (is_apart slots v s) refl
        where
          by : (u : Bool) → is_apart slots v s ≡ u → test s ≡ true
          by true e = passes s e
          by false e =
              let z = covers s e in
              let y : (not (is_within slots (piece_stretch slots v z.0) s) || test s) ≡ true = all-of (λ r. not (is_within slots (piece_stretch slots v z.0) r) || test r) s ss m (h z.0 z.1) in
              sym (ap (λ u. not u || test s) z.2) ∙ y

      each : (rs : List Begun) → ((s : Begun) → Member s rs → Member s ss) → list_all test rs ≡ true
      each [] k = refl
      each (r ∷ rs) k = λ i. one r (k r first) i && each rs (λ s m. k s (later m)) i

-- from the first writing on, up to one whose entry is behind the points

module _ (slots : Numbers) (test : Begun → Bool) (at : Stretch) where
  abbrev pub part : Begun → Bool
  part s = not (is_within slots at s) || test s

  outside : (s : Begun) → is_within slots at s ≡ false → part s ≡ true
  outside s e = ap (λ u. not u || test s) e

  early-out : (s : Begun) → exit_rank slots s.start < at.first → part s ≡ true
  early-out s h = outside s (go (nat_le at.first (exit_rank slots s.start)) refl)
    where
      go : (u : Bool) → nat_le at.first (exit_rank slots s.start) ≡ u → (u && nat_le (entry_rank slots s.start) at.last) ≡ false
      go true e = absurd (let l = leb-true at.first (exit_rank slots s.start) e in omega (arith, l, h))
      go false e = refl

  late-out : (s : Begun) → at.last < entry_rank slots s.start → part s ≡ true
  late-out s h = outside s (go (nat_le at.first (exit_rank slots s.start)) (nat_le (entry_rank slots s.start) at.last) refl)
    where
      go : (u w : Bool) → nat_le (entry_rank slots s.start) at.last ≡ w → (u && w) ≡ false
      go u true e = absurd (let l = leb-true (entry_rank slots s.start) at.last e in omega (arith, l, h))
      go true false e = refl
      go false false e = refl

  pub part-passes : (s : Begun) → test s ≡ true → part s ≡ true
  part-passes s h = go (is_within slots at s)
    where
      go : (u : Bool) → (not u || test s) ≡ true
      go true = h
      go false = refl

  front : (ss : List Begun) → 0 < at.first → list_all part (take (leading (is_begun slots (at.first - 1)) ss) ss) ≡ true
  front [] l = refl
  front (s ∷ ss) l = go (is_begun slots (at.first - 1) s) refl (front ss l)
    where
      go : (u : Bool) → is_begun slots (at.first - 1) s ≡ u → list_all part (take (leading (is_begun slots (at.first - 1)) ss) ss) ≡ true → list_all part (take (cond u (suc (leading (is_begun slots (at.first - 1)) ss)) 0) (s ∷ ss)) ≡ true
      go true e ih = λ i. early-out s (let h = leb-true (exit_rank slots s.start) (at.first - 1) e in omega (arith, h, l)) i && ih i
      go false e ih = refl

  pub before-first : (ss : List Begun) → list_all part (take (first_writing slots at.first ss) ss) ≡ true
  before-first ss = go (nat_eq at.first 0) refl
    where
      go : (u : Bool) → nat_eq at.first 0 ≡ u → list_all part (take (cond u 0 (piece_at slots (at.first - 1) ss)) ss) ≡ true
      go true e = refl
      go false e = front ss (positive at.first e)
        where
          positive : (n : ℕ) → nat_eq n 0 ≡ false → 0 < n
          positive zero h = absurd (cc)
          positive (suc n) h = omega arith

  high : (n : ℕ) (ss : List Begun) → rises_from slots n ss ≡ true → at.last < n * 2 → list_all part ss ≡ true
  high n [] r l = refl
  high n (s ∷ ss) r l =
      let up = ltb-true n (number_of slots s.start) (both-left _ _ r) in
      λ i. late-out s (omega (arith, up, l)) i && high (number_of slots s.start) ss (both-right _ _ r) (omega (arith, up, l)) i

  pub behind-last : (n : ℕ) (ss : List Begun) (k : ℕ) (d : Begun) → rises_from slots n ss ≡ true → k < length ss → at.last < entry_rank slots (get_or ss k d).start → list_all part (take k ss) ≡ true → list_all part ss ≡ true
  behind-last n [] k d r h l a = absurd (omega (arith, h))
  behind-last n (s ∷ ss) zero d r h l a = λ i. late-out s l i && high (number_of slots s.start) ss (both-right _ _ r) l i
  behind-last n (s ∷ ss) (suc k) d r h l a =
      λ i. both-left (part s) (list_all part (take k ss)) a i && behind-last (number_of slots s.start) ss k d (both-right _ _ r) (omega (arith, h)) l (both-right (part s) (list_all part (take k ss)) a) i
