-- A lane is met in a stretch of points just where it is at some point of the block there, and it is at a point just where the points of one of its pieces are.
use Rattle.std.proofs.Common.{◌≡◌, ◌<◌, ◌≤◌, ◌⊎◌, ℕ, zero, suc, ◌+◌, ◌*◌, ◌-◌, Bool, true, false, cond, length, map, List, [], ◌∷◌, Option, None, Some, inl, inr, refl, sym, ap, ◌∙◌, subst, arith, max}
use Rattle.std.specs.Prelude.{◌||◌, slice_get, option_map}
use Rattle.std.specs.List.{list_any, filter_map, cons_option}
use Rattle.std.proofs.lemmas.Bool.{ltb-true, leb-true, le-leb, cases_lt, lt-leb, and_parts, false≢true}
use Rattle.std.proofs.lemmas.Option.{slice_get-map}
use Rattle.slot_index.specs.Order.{number_of}
use Rattle.meaning.specs.Live.{Among, here, there}
use Rattle.mir_meaning.specs.Registers.{numbers}
use Rattle.live_lanes.specs.declared.ask.extent.Extent.{Extent}
use Rattle.live_lanes.specs.declared.ask.extent.Stretch.{Stretch}
use Rattle.live_lanes.specs.declared.row.DefPiece.{DefPiece}
use Rattle.live_lanes.specs.declared.row.Cell.{Cell}
use Rattle.live_lanes.specs.declared.row.PieceEnd.{PieceEnd}
use Rattle.live_lanes.specs.Table.{Numbers, Begun, Seen, begun, seen_cell, entry_rank, exit_rank, end_rank, rises_from}
use Rattle.live_lanes.specs.Reach.{is_never}
use Rattle.live_lanes.specs.Entered.{piece_count}
use Rattle.live_lanes.specs.Held.{held_at, hold_rank}
use Rattle.live_lanes.specs.Extents.{segment_extent, extent_in, cell_extents, first_rank, last_rank, begun_by, is_met_in}
use Rattle.live_lanes.proofs.Extents.{any-in, lasts, met-is}
use Rattle.split_choose.specs.Seen.{turns_from, ends_in_turn, only}

some-same : {X : Type 0} (x y : X) → Some x ≡ Some y → x ≡ y
some-same x y e = cc

-- one point alone

pub only-held : (slots : Numbers) (v : Seen) (r : ℕ) → is_met_in slots v (only r) ≡ held_at slots v r
only-held slots v r = let e : r + 1 - r ≡ 1 = omega arith in ap (λ n. list_any (held_at slots v) (numbers r n)) e ∙ or-false (held_at slots v r)
  where
    or-false : (b : Bool) → (b || false) ≡ b
    or-false true = refl
    or-false false = refl

pub met-wider : (slots : Numbers) (v : Seen) (r : ℕ) (at : Stretch) → at.first ≤ r → r ≤ at.last → is_met_in slots v (only r) ≡ true → is_met_in slots v at ≡ true
met-wider slots v r at lo hi h = any-in (held_at slots v) at.first (at.last + 1 - at.first) r lo (omega arith) (sym (only-held slots v r) ∙ h)

pub segment-at : (xs : List DefPiece) (j : ℕ) (s : Begun) → slice_get (map begun xs) j ≡ Some s → (p : DefPiece) × (slice_get xs j ≡ Some p) × (begun p ≡ s)
segment-at [] j s g = absurd (cc)
segment-at (x ∷ xs) zero s g = (x, refl, some-same (begun x) s g)
segment-at (x ∷ xs) (suc j) s g = segment-at xs j s g

-- the first points of pieces

hold-low : (slots : Numbers) (s : Begun) → entry_rank slots s.start ≤ hold_rank slots s
hold-low slots s = go s.early
  where
    go : (u : Bool) → entry_rank slots s.start ≤ cond u (entry_rank slots s.start) (exit_rank slots s.start)
    go true = omega arith
    go false = omega arith

hold-high : (slots : Numbers) (s : Begun) → hold_rank slots s ≤ exit_rank slots s.start
hold-high slots s = go s.early
  where
    go : (u : Bool) → cond u (entry_rank slots s.start) (exit_rank slots s.start) ≤ exit_rank slots s.start
    go true = omega arith
    go false = omega arith

-- of pieces in order the first begins first
hold-above : (slots : Numbers) (m : ℕ) (ss : List Begun) (j : ℕ) (s : Begun) → rises_from slots m ss ≡ true → slice_get ss j ≡ Some s → m * 2 + 1 < hold_rank slots s
hold-above slots m [] j s r g = absurd (cc)
hold-above slots m (t ∷ ts) zero s r g =
    let P : Begun → Type 0 = λ y. m * 2 + 1 < hold_rank slots y in
    subst P (some-same t s g) (let a = ltb-true m (number_of slots t.start) (and_parts _ _ r).0 in let b = hold-low slots t in omega arith)
hold-above slots m (t ∷ ts) (suc j) s r g =
    let a = ltb-true m (number_of slots t.start) (and_parts _ _ r).0 in
    let b = hold-above slots (number_of slots t.start) ts j s (and_parts _ _ r).1 g in omega arith

module _ (slots : Numbers) where
  count-more : (at : ℕ) (s : Begun) (ss : List Begun) → hold_rank slots s ≤ at → begun_by slots at (s ∷ ss) ≡ suc (begun_by slots at ss)
  count-more at s ss h = ap (λ b. cond b (suc (begun_by slots at ss)) 0) (le-leb (hold_rank slots s) at h)

  count-none : (at : ℕ) (s : Begun) (ss : List Begun) → at < hold_rank slots s → begun_by slots at (s ∷ ss) ≡ 0
  count-none at s ss h = ap (λ b. cond b (suc (begun_by slots at ss)) 0) (lt-leb (hold_rank slots s) at h)

  -- none begins by the point, and so none by an earlier one
  begun-none : (last r : ℕ) (ss : List Begun) → begun_by slots last ss ≡ 0 → r ≤ last → begun_by slots r ss ≡ 0
  begun-none last r [] e h = refl
  begun-none last r (s ∷ ss) e h = go (cases_lt last (hold_rank slots s))
    where
      go : (last < hold_rank slots s) ⊎ (hold_rank slots s ≤ last) → begun_by slots r (s ∷ ss) ≡ 0
      go (inl lt) = count-none r s ss (omega arith)
      go (inr le) = absurd (let a = count-more last s ss le in omega (arith, a, e))

  -- the piece of that number is the last that begins by the point, where it begins by it and the next one doesn't
  begun-at : (m r : ℕ) (ss : List Begun) (j : ℕ) (s : Begun) → rises_from slots m ss ≡ true → slice_get ss j ≡ Some s → hold_rank slots s ≤ r → ((t : Begun) → slice_get ss (suc j) ≡ Some t → r < hold_rank slots t) → begun_by slots r ss ≡ suc j
  begun-at m r [] j s rises g lo hi = absurd (cc)
  begun-at m r (t ∷ ts) zero s rises g lo hi =
      let P : Begun → Type 0 = λ y. hold_rank slots y ≤ r in
      count-more r t ts (subst P (sym (some-same t s g)) lo) ∙ ap suc (none ts hi)
    where
      none : (ts : List Begun) → ((t : Begun) → slice_get ts 0 ≡ Some t → r < hold_rank slots t) → begun_by slots r ts ≡ 0
      none [] h = refl
      none (t ∷ ts) h = count-none r t ts (h t refl)
  begun-at m r (t ∷ ts) (suc j) s rises g lo hi =
      let a = hold-above slots (number_of slots t.start) ts j s (and_parts _ _ rises).1 g in
      let b = hold-high slots t in
      count-more r t ts (omega arith) ∙ ap suc (begun-at (number_of slots t.start) r ts j s (and_parts _ _ rises).1 g lo hi)

  -- and it is that
  begun-tells : (m r : ℕ) (ss : List Begun) (j : ℕ) → rises_from slots m ss ≡ true → begun_by slots r ss ≡ suc j → (s : Begun) × (slice_get ss j ≡ Some s) × (hold_rank slots s ≤ r) × ((t : Begun) → slice_get ss (suc j) ≡ Some t → r < hold_rank slots t)
  begun-tells m r [] j rises e = absurd (cc)
  begun-tells m r (s ∷ ss) j rises e = go (cases_lt r (hold_rank slots s)) (λ k. begun-tells (number_of slots s.start) r ss k (and_parts _ _ rises).1)
    where
      next : (ts : List Begun) → begun_by slots r ts ≡ 0 → (t : Begun) → slice_get ts 0 ≡ Some t → r < hold_rank slots t
      next [] e t g = absurd (cc)
      next (u ∷ us) e t g = by_case (cases_lt r (hold_rank slots u))
        where
          by_case : (r < hold_rank slots u) ⊎ (hold_rank slots u ≤ r) → r < hold_rank slots t
          by_case (inl lt) = let P : Begun → Type 0 = λ y. r < hold_rank slots y in subst P (some-same u t g) lt
          by_case (inr le) = absurd (let a = count-more r u us le in omega (arith, a, e))

      more : (j : ℕ) → hold_rank slots s ≤ r → begun_by slots r ss ≡ j → ((k : ℕ) → begun_by slots r ss ≡ suc k → (t : Begun) × (slice_get ss k ≡ Some t) × (hold_rank slots t ≤ r) × ((u : Begun) → slice_get ss (suc k) ≡ Some u → r < hold_rank slots u)) → (t : Begun) × (slice_get (s ∷ ss) j ≡ Some t) × (hold_rank slots t ≤ r) × ((u : Begun) → slice_get (s ∷ ss) (suc j) ≡ Some u → r < hold_rank slots u)
      more zero le e ih = (s, refl, le, next ss e)
      more (suc k) le e ih = ih k e

      go : (r < hold_rank slots s) ⊎ (hold_rank slots s ≤ r) → ((k : ℕ) → begun_by slots r ss ≡ suc k → (t : Begun) × (slice_get ss k ≡ Some t) × (hold_rank slots t ≤ r) × ((u : Begun) → slice_get ss (suc k) ≡ Some u → r < hold_rank slots u)) → (t : Begun) × (slice_get (s ∷ ss) j ≡ Some t) × (hold_rank slots t ≤ r) × ((u : Begun) → slice_get (s ∷ ss) (suc j) ≡ Some u → r < hold_rank slots u)
      go (inl lt) ih = absurd (let a = count-none r s ss lt in omega (arith, a, e))
      go (inr le) ih = let a = count-more r s ss le in more j le (omega (arith, a, e)) ih

  -- a piece has its first point
  start-lasts : (c : Cell) (j : ℕ) (s : Begun) → slice_get (map begun c.segments.items) j ≡ Some s → lasts slots (hold_rank slots s) (extent_in (Some c) (suc j)) ≡ true
  start-lasts c j s g = go (segment-at c.segments.items j s g)
    where
      go : ((p : DefPiece) × (slice_get c.segments.items j ≡ Some p) × (begun p ≡ s)) → lasts slots (hold_rank slots s) (option_map segment_extent (slice_get c.segments.items j)) ≡ true
      go (p, at, is) =
          let P : Begun → Type 0 = λ b. lasts slots (hold_rank slots b) (Some (segment_extent p)) ≡ true in
          let high = hold-high slots (begun p) in
          ap (λ (o : Option DefPiece). lasts slots (hold_rank slots s) (option_map segment_extent o)) at ∙ subst P is (le-leb (hold_rank slots (begun p)) (max (end_rank slots p.piece.end) (exit_rank slots p.start)) (omega arith))

  -- a lane in a stretch is at a point of it: the stretch's first, or the first of a piece
  module _ (c : Cell) (rises : rises_from slots 0 (seen_cell c).segments ≡ true) where
    abbrev ss : List Begun
    ss = (seen_cell c).segments

    at-only : (r : ℕ) → is_met_in slots (seen_cell c) (only r) ≡ lasts slots r (extent_in (Some c) (begun_by slots r ss))
    at-only r = met-is slots c (only r) rises (omega arith)

    pub met-point : (P : ℕ → Type 0) (at : Stretch) → at.first ≤ at.last → P at.first → ((j : ℕ) (s : Begun) → slice_get ss j ≡ Some s → P (hold_rank slots s)) → is_met_in slots (seen_cell c) at ≡ true
        → (r : ℕ) × P r × (at.first ≤ r) × (r ≤ at.last) × (is_met_in slots (seen_cell c) (only r) ≡ true)
    met-point P at le first starts met = go (begun_by slots at.last ss) refl
      where
        found : lasts slots at.first (extent_in (Some c) (begun_by slots at.last ss)) ≡ true
        found = sym (met-is slots c at rises le) ∙ met

        same : (r k : ℕ) → begun_by slots at.last ss ≡ k → begun_by slots r ss ≡ k → lasts slots r (extent_in (Some c) (begun_by slots at.last ss)) ≡ true → is_met_in slots (seen_cell c) (only r) ≡ true
        same r k a b h = at-only r ∙ (ap (λ i. lasts slots r (extent_in (Some c) i)) (b ∙ sym a) ∙ h)

        later : (j : ℕ) → begun_by slots at.last ss ≡ suc j → ((s : Begun) × (slice_get ss j ≡ Some s) × (hold_rank slots s ≤ at.last) × ((t : Begun) → slice_get ss (suc j) ≡ Some t → at.last < hold_rank slots t)) → (r : ℕ) × P r × (at.first ≤ r) × (r ≤ at.last) × (is_met_in slots (seen_cell c) (only r) ≡ true)
        later j e (s, g, lo, hi) = by_start (cases_lt (hold_rank slots s) at.first)
          where
            begun-there : (r : ℕ) → hold_rank slots s ≤ r → r ≤ at.last → begun_by slots r ss ≡ suc j
            begun-there r a b = begun-at 0 r ss j s rises g a (λ t h. let z = hi t h in omega arith)

            by_start : (hold_rank slots s < at.first) ⊎ (at.first ≤ hold_rank slots s) → (r : ℕ) × P r × (at.first ≤ r) × (r ≤ at.last) × (is_met_in slots (seen_cell c) (only r) ≡ true)
            by_start (inl h) = (at.first, first, omega arith, le, same at.first (suc j) e (begun-there at.first (omega arith) le) found)
            by_start (inr h) = (hold_rank slots s, starts j s g, h, lo, same (hold_rank slots s) (suc j) e (begun-there (hold_rank slots s) (omega arith) lo) (ap (λ i. lasts slots (hold_rank slots s) (extent_in (Some c) i)) e ∙ start-lasts c j s g))

        go : (k : ℕ) → begun_by slots at.last ss ≡ k → (r : ℕ) × P r × (at.first ≤ r) × (r ≤ at.last) × (is_met_in slots (seen_cell c) (only r) ≡ true)
        go zero e = (at.first, first, omega arith, le, same at.first 0 e (begun-none at.last at.first ss e le) found)
        go (suc j) e = later j e (begun-tells 0 at.last ss j rises e)

-- members

pub among-cases : {X : Type 0} (x y : X) (ys : List X) → Among x (y ∷ ys) → (x ≡ y) ⊎ Among x ys
among-cases x y ys here = inl refl
among-cases x y ys (there m) = inr m

pub filter_map-in : {X Y : Type 0} (h : X → Option Y) (xs : List X) (y : Y) → Among y (filter_map h xs) → (x : X) × Among x xs × (h x ≡ Some y)
filter_map-in h [] y m = elim m [ ]
filter_map-in {X} {Y} h (x ∷ xs) y m = go (h x) refl m (filter_map-in h xs y)
  where
    later : ((z : X) × Among z xs × (h z ≡ Some y)) → (z : X) × Among z (x ∷ xs) × (h z ≡ Some y)
    later w = (w.0, there w.1, w.2)

    by_case : (z : Y) → h x ≡ Some z → (y ≡ z) ⊎ Among y (filter_map h xs) → (Among y (filter_map h xs) → (w : X) × Among w xs × (h w ≡ Some y)) → (w : X) × Among w (x ∷ xs) × (h w ≡ Some y)
    by_case z e (inl f) ih = (x, here, e ∙ ap Some (sym f))
    by_case z e (inr n) ih = later (ih n)

    go : (o : Option Y) → h x ≡ o → Among y (cons_option o (filter_map h xs)) → (Among y (filter_map h xs) → (w : X) × Among w xs × (h w ≡ Some y)) → (w : X) × Among w (x ∷ xs) × (h w ≡ Some y)
    go None e m ih = later (ih m)
    go (Some z) e m ih = by_case z e (among-cases y z (filter_map h xs) m) ih

pub filter_map-of : {X Y : Type 0} (h : X → Option Y) (xs : List X) (x : X) (y : Y) → Among x xs → h x ≡ Some y → Among y (filter_map h xs)
filter_map-of h [] x y m e = elim m [ ]
filter_map-of {X} {Y} h (z ∷ xs) x y m e = go (among-cases x z xs m) (filter_map-of h xs x y)
  where
    past : (o : Option Y) → Among y (filter_map h xs) → Among y (cons_option o (filter_map h xs))
    past None n = n
    past (Some w) n = there n

    go : (x ≡ z) ⊎ Among x xs → (Among x xs → h x ≡ Some y → Among y (filter_map h xs)) → Among y (cons_option (h z) (filter_map h xs))
    go (inl f) ih = let P : Option Y → Type 0 = λ o. Among y (cons_option o (filter_map h xs)) in subst P (sym (ap h (sym f) ∙ e)) here
    go (inr n) ih = past (h z) (ih n e)

pub numbers-of : (a n k : ℕ) → a ≤ k → k < a + n → Among k (numbers a n)
numbers-of a zero k lo hi = absurd (omega arith)
numbers-of a (suc n) k lo hi = go (cases_lt a k) (λ h. numbers-of (suc a) n k h (omega arith))
  where
    go : (a < k) ⊎ (k ≤ a) → (suc a ≤ k → Among k (numbers (suc a) n)) → Among k (a ∷ numbers (suc a) n)
    go (inl h) ih = there (ih (omega arith))
    go (inr h) ih = let e : a ≡ k = omega arith in let P : ℕ → Type 0 = λ x. Among k (x ∷ numbers (suc a) n) in subst P (sym e) here

slice-below : {X : Type 0} (xs : List X) (k : ℕ) (x : X) → slice_get xs k ≡ Some x → k < length xs
slice-below [] k x e = absurd (cc)
slice-below (y ∷ xs) zero x e = omega arith
slice-below (y ∷ xs) (suc k) x e = let h = slice-below xs k x e in omega arith

pub piece-extent : (c : Cell) (k : ℕ) (e : Extent) → extent_in (Some c) k ≡ Some e → Among e (cell_extents c)
piece-extent c k e h = filter_map-of (extent_in (Some c)) (numbers 0 (piece_count (Some c))) k e (numbers-of 0 (piece_count (Some c)) k (omega arith) (below k h)) h
  where
    seg : (j : ℕ) (o : Option DefPiece) → slice_get c.segments.items j ≡ o → option_map segment_extent o ≡ Some e → suc j < 0 + (length c.segments.items + 1)
    seg j None g f = absurd (cc)
    seg j (Some p) g f = let b = slice-below c.segments.items j p g in omega arith

    below : (k : ℕ) → extent_in (Some c) k ≡ Some e → k < 0 + (length c.segments.items + 1)
    below zero f = omega arith
    below (suc j) f = seg j (slice_get c.segments.items j) refl f

-- a lane is at a point just where the points of a piece are

lasts-tells : (slots : Numbers) (r : ℕ) (o : Option Extent) → lasts slots r o ≡ true → (e : Extent) × (o ≡ Some e) × (r ≤ last_rank slots e)
lasts-tells slots r None h = absurd (false≢true h)
lasts-tells slots r (Some e) h = (e, refl, leb-true r (last_rank slots e) h)

module _ (slots : Numbers) (c : Cell) (rises : rises_from slots 0 (seen_cell c).segments ≡ true) where
  abbrev vs : List Begun
  vs = (seen_cell c).segments

  pub held-covered : (r : ℕ) → is_met_in slots (seen_cell c) (only r) ≡ true → (e : Extent) × Among e (cell_extents c) × (first_rank slots e ≤ r) × (r ≤ last_rank slots e)
  held-covered r met = go (begun_by slots r vs) refl (lasts-tells slots r (extent_in (Some c) (begun_by slots r vs)) (sym (at-only slots c rises r) ∙ met))
    where
      block-start : (u : Bool) (e : Extent) → cond u None (Some (record { start = None; early = false; end = c.first.end })) ≡ Some e → first_rank slots e ≤ r
      block-start true e h = absurd (cc)
      block-start false e h = let P : Extent → Type 0 = λ x. first_rank slots x ≤ r in subst P (some-same _ e h) (let z : 0 ≤ r = omega arith in z)

      segment-start : (j : ℕ) (e : Extent) → extent_in (Some c) (suc j) ≡ Some e → ((s : Begun) × (slice_get vs j ≡ Some s) × (hold_rank slots s ≤ r) × ((t : Begun) → slice_get vs (suc j) ≡ Some t → r < hold_rank slots t)) → first_rank slots e ≤ r
      segment-start j e h z = by_segment (segment-at c.segments.items j z.0 z.1)
        where
          by_segment : ((p : DefPiece) × (slice_get c.segments.items j ≡ Some p) × (begun p ≡ z.0)) → first_rank slots e ≤ r
          by_segment (p, at, is) =
              let P : Begun → Type 0 = λ b. hold_rank slots b ≤ r in let Q : Extent → Type 0 = λ x. first_rank slots x ≤ r in
              let same : segment_extent p ≡ e = some-same (segment_extent p) e (sym (ap (option_map segment_extent) at) ∙ h) in
              subst Q same (subst P (sym is) z.2)

      go : (k : ℕ) → begun_by slots r vs ≡ k → ((e : Extent) × (extent_in (Some c) (begun_by slots r vs) ≡ Some e) × (r ≤ last_rank slots e)) → (e : Extent) × Among e (cell_extents c) × (first_rank slots e ≤ r) × (r ≤ last_rank slots e)
      go zero b (e, is, le) = let f = ap (extent_in (Some c)) (sym b) ∙ is in (e, piece-extent c 0 e f, block-start (is_never c.first.end) e f, le)
      go (suc j) b (e, is, le) = let f = ap (extent_in (Some c)) (sym b) ∙ is in (e, piece-extent c (suc j) e f, segment-start j e f (begun-tells slots 0 r vs j rises b), le)

-- pieces end in turn

module _ (slots : Numbers) where
  turn-first : (e : PieceEnd) (m : ℕ) (ss : List Begun) (i : ℕ) (s : Begun) → rises_from slots m ss ≡ true → turns_from slots e ss ≡ true → slice_get ss i ≡ Some s → end_rank slots e ≤ hold_rank slots s
  turn-first e m [] i s r t g = absurd (cc)
  turn-first e m (x ∷ xs) zero s r t g = let P : Begun → Type 0 = λ y. end_rank slots e ≤ hold_rank slots y in subst P (some-same x s g) (leb-true (end_rank slots e) (hold_rank slots x) (and_parts _ _ t).0)
  turn-first e m (x ∷ xs) (suc i) s r t g =
      let a : end_rank slots e ≤ hold_rank slots x = leb-true (end_rank slots e) (hold_rank slots x) (and_parts _ _ t).0 in
      let b : hold_rank slots x ≤ exit_rank slots x.start = hold-high slots x in
      let d : number_of slots x.start * 2 + 1 < hold_rank slots s = hold-above slots (number_of slots x.start) xs i s (and_parts _ _ r).1 g in
      omega arith

  -- a piece is over before the first point of a later one, or at it
  turn-later : (e : PieceEnd) (m : ℕ) (ss : List Begun) (j i : ℕ) (a s : Begun) → rises_from slots m ss ≡ true → turns_from slots e ss ≡ true → slice_get ss j ≡ Some a → slice_get ss i ≡ Some s → j < i → (end_rank slots a.end ≤ hold_rank slots s) × (exit_rank slots a.start < hold_rank slots s)
  turn-later e m [] j i a s r t g h lt = absurd (cc)
  turn-later e m (x ∷ xs) j zero a s r t g h lt = absurd (omega arith)
  turn-later e m (x ∷ xs) zero (suc i) a s r t g h lt =
      let P : Begun → Type 0 = λ y. (end_rank slots y.end ≤ hold_rank slots s) × (exit_rank slots y.start < hold_rank slots s) in
      subst P (some-same x a g) (turn-first x.end (number_of slots x.start) xs i s (and_parts _ _ r).1 (and_parts _ _ t).1 h, hold-above slots (number_of slots x.start) xs i s (and_parts _ _ r).1 h)
  turn-later e m (x ∷ xs) (suc j) (suc i) a s r t g h lt = turn-later x.end (number_of slots x.start) xs j i a s (and_parts _ _ r).1 (and_parts _ _ t).1 g h (omega arith)

  begun-least : (r m : ℕ) (ss : List Begun) (j : ℕ) (s : Begun) → rises_from slots m ss ≡ true → slice_get ss j ≡ Some s → hold_rank slots s ≤ r → j < begun_by slots r ss
  begun-least r m [] j s rises g h = absurd (cc)
  begun-least r m (x ∷ xs) zero s rises g h =
      let le : hold_rank slots x ≤ r = (let P : Begun → Type 0 = λ y. hold_rank slots y ≤ r in subst P (sym (some-same x s g)) h) in
      let c = count-more slots r x xs le in omega (arith, c)
  begun-least r m (x ∷ xs) (suc j) s rises g h =
      let b : hold_rank slots x ≤ exit_rank slots x.start = hold-high slots x in
      let d : number_of slots x.start * 2 + 1 < hold_rank slots s = hold-above slots (number_of slots x.start) xs j s (and_parts _ _ rises).1 g in
      let c = count-more slots r x xs (omega arith) in
      let ih : j < begun_by slots r xs = begun-least r (number_of slots x.start) xs j s (and_parts _ _ rises).1 g h in omega (arith, c, ih)

pub extent-piece : (c : Cell) (e : Extent) → Among e (cell_extents c) → (k : ℕ) × (extent_in (Some c) k ≡ Some e)
extent-piece c e m = let z = filter_map-in (extent_in (Some c)) (numbers 0 (piece_count (Some c))) e m in (z.0, z.2)

module _ (slots : Numbers) (c : Cell) (rises : rises_from slots 0 (seen_cell c).segments ≡ true) (turns : ends_in_turn slots (seen_cell c) ≡ true) where
  abbrev ws : List Begun
  ws = (seen_cell c).segments

  -- at the first point of a piece that is the last to begin there
  at-start : (r i : ℕ) (s : Begun) → begun_by slots r ws ≡ suc i → slice_get ws i ≡ Some s → r ≡ hold_rank slots s → is_met_in slots (seen_cell c) (only r) ≡ true
  at-start r i s b g e =
      let P : ℕ → Type 0 = λ x. lasts slots x (extent_in (Some c) (suc i)) ≡ true in
      at-only slots c rises r ∙ (ap (λ k. lasts slots r (extent_in (Some c) k)) b ∙ subst P (sym e) (start-lasts slots c i s g))

  within-piece : (r k : ℕ) (e : Extent) → begun_by slots r ws ≡ k → extent_in (Some c) k ≡ Some e → r ≤ last_rank slots e → is_met_in slots (seen_cell c) (only r) ≡ true
  within-piece r k e b is le = at-only slots c rises r ∙ (ap (λ i. lasts slots r (extent_in (Some c) i)) b ∙ (ap (lasts slots r) is ∙ le-leb r (last_rank slots e) le))

  by-block : (r : ℕ) (e : Extent) → extent_in (Some c) 0 ≡ Some e → r ≤ last_rank slots e → is_met_in slots (seen_cell c) (only r) ≡ true
  by-block r e is le = go (begun_by slots r ws) refl
    where
      low : (u : Bool) → cond u None (Some (record { start = None; early = false; end = c.first.end })) ≡ Some e → r ≤ end_rank slots c.first.end
      low true h = absurd (cc)
      low false h = let P : Extent → Type 0 = λ x. r ≤ last_rank slots x in subst P (sym (some-same _ e h)) le

      later : (i : ℕ) → begun_by slots r ws ≡ suc i → ((s : Begun) × (slice_get ws i ≡ Some s) × (hold_rank slots s ≤ r) × ((t : Begun) → slice_get ws (suc i) ≡ Some t → r < hold_rank slots t)) → is_met_in slots (seen_cell c) (only r) ≡ true
      later i b (s, g, lo, hi) =
          let a : r ≤ end_rank slots c.first.end = low (is_never c.first.end) is in
          let d : end_rank slots c.first.end ≤ hold_rank slots s = turn-first slots c.first.end 0 ws i s rises turns g in
          at-start r i s b g (omega arith)

      go : (k : ℕ) → begun_by slots r ws ≡ k → is_met_in slots (seen_cell c) (only r) ≡ true
      go zero b = within-piece r 0 e b is le
      go (suc i) b = later i b (begun-tells slots 0 r ws i rises b)

  by-segment : (r j : ℕ) (p : DefPiece) (e : Extent) → slice_get ws j ≡ Some (begun p) → extent_in (Some c) (suc j) ≡ Some e → segment_extent p ≡ e → first_rank slots e ≤ r → r ≤ last_rank slots e → is_met_in slots (seen_cell c) (only r) ≡ true
  by-segment r j p e g is same lo le = go (begun_by slots r ws) refl
    where
      low : hold_rank slots (begun p) ≤ r
      low = let P : Extent → Type 0 = λ x. first_rank slots x ≤ r in subst P (sym same) lo

      high : r ≤ max (end_rank slots p.piece.end) (exit_rank slots p.start)
      high = let P : Extent → Type 0 = λ x. r ≤ last_rank slots x in subst P (sym same) le

      least : j < begun_by slots r ws
      least = begun-least slots r 0 ws j (begun p) rises g low

      later : (i : ℕ) → begun_by slots r ws ≡ suc i → j < i → ((s : Begun) × (slice_get ws i ≡ Some s) × (hold_rank slots s ≤ r) × ((t : Begun) → slice_get ws (suc i) ≡ Some t → r < hold_rank slots t)) → is_met_in slots (seen_cell c) (only r) ≡ true
      later i b lt (s, h, ho, hi) =
          let d : (end_rank slots p.piece.end ≤ hold_rank slots s) × (exit_rank slots p.start < hold_rank slots s) = turn-later slots c.first.end 0 ws j i (begun p) s rises turns g h lt in
          let d0 : end_rank slots p.piece.end ≤ hold_rank slots s = d.0 in let d1 : exit_rank slots p.start < hold_rank slots s = d.1 in
          let up : r ≤ max (end_rank slots p.piece.end) (exit_rank slots p.start) = high in
          at-start r i s b h (omega arith)

      go : (k : ℕ) → begun_by slots r ws ≡ k → is_met_in slots (seen_cell c) (only r) ≡ true
      go zero b = absurd (let l : j < begun_by slots r ws = least in omega arith)
      go (suc i) b = by_place (cases_lt j i)
        where
          by_place : (j < i) ⊎ (i ≤ j) → is_met_in slots (seen_cell c) (only r) ≡ true
          by_place (inl lt) = later i b lt (begun-tells slots 0 r ws i rises b)
          by_place (inr ge) = let l : j < begun_by slots r ws = least in let same_place : i ≡ j = omega arith in within-piece r (suc j) e (b ∙ ap suc same_place) is le

  pub covered-held : (r : ℕ) (e : Extent) → Among e (cell_extents c) → first_rank slots e ≤ r → r ≤ last_rank slots e → is_met_in slots (seen_cell c) (only r) ≡ true
  covered-held r e m lo hi = go (extent-piece c e m)
    where
      segment : (j : ℕ) (o : Option DefPiece) → slice_get c.segments.items j ≡ o → option_map segment_extent o ≡ Some e → is_met_in slots (seen_cell c) (only r) ≡ true
      segment j None g h = absurd (cc)
      segment j (Some p) g h = by-segment r j p e (slice_get-map begun c.segments.items j ∙ ap (option_map begun) g) (ap (option_map segment_extent) g ∙ h) (some-same (segment_extent p) e h) lo hi

      by_place : (k : ℕ) → extent_in (Some c) k ≡ Some e → is_met_in slots (seen_cell c) (only r) ≡ true
      by_place zero is = by-block r e is hi
      by_place (suc j) is = segment j (slice_get c.segments.items j) refl is

      go : ((k : ℕ) × (extent_in (Some c) k ≡ Some e)) → is_met_in slots (seen_cell c) (only r) ≡ true
      go (k, is) = by_place k is
