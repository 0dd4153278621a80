-- Whether a lane is live or occupied at some point of a stretch: the last piece that begins by its last point decides.
use Rattle.std.proofs.Common.{◌≡◌, ◌<◌, ◌≤◌, ◌⊎◌, ℕ, zero, suc, ◌+◌, ◌*◌, ◌-◌, Bool, true, false, cond, ◌&&◌, leb, ltb, eqb, length, map, List, [], ◌∷◌, Option, None, Some, inl, inr, refl, sym, ap, ◌∙◌, subst, arith, get_or, max}
use Rattle.std.specs.Prelude.{◌||◌, not, nat_eq, nat_le, slice_get, option_map}
use Rattle.std.specs.List.{list_any}
use Rattle.std.specs.List.Sorted.{IsPartitionedBy}
use Rattle.std.proofs.lemmas.Bool.{ltb-true, ltb-false, lt-ltb, leb-true, leb-false, le-leb, eqb-true, ne_eqb, eq-eqb}
use Rattle.std.proofs.lemmas.Option.{slice_get-map}
use Rattle.slot_index.specs.Order.{number_of}
use Rattle.mir_meaning.specs.Registers.{numbers}
use Rattle.instr_effects.specs.declared.row.LaneSpan.{LaneSpan}
use Rattle.instr_effects.specs.Row.{lane_in}
use Rattle.instr_effects.specs.Numbers.{row_number_in}
use Rattle.live_lanes.specs.declared.ask.extent.Extent.{Extent}
use Rattle.live_lanes.specs.declared.ask.extent.Stretch.{Stretch}
use Rattle.live_lanes.specs.declared.row.DefPiece.{DefPiece}
use Rattle.live_lanes.specs.declared.row.Cell.{Cell}
use Rattle.live_lanes.specs.declared.row.PieceEnd.{PieceEnd}
use Rattle.live_lanes.specs.declared.row.PieceEnd.TheVariants as ends
use Rattle.live_lanes.specs.Table.{Numbers, Begun, Seen, unseen, begun, seen_cell, leading, entry_rank, exit_rank, end_rank, end_in, begun_end, rises_from, piece_at}
use Rattle.live_lanes.specs.Reach.{is_never, reaches, seen_at}
use Rattle.live_lanes.specs.Held.{writes_at, held_at, hold_rank}
use Rattle.live_lanes.specs.Extents.{lanes_count, block_extent, segment_extent, extent_in, last_rank, begun_by, is_met_in}
use Rattle.live_lanes.proofs.Cells.{both, both-left, both-right}
use Rattle.live_lanes.proofs.Segments.{above}
use Rattle.live_lanes.proofs.Held.{or-left, or-right, or-none, and-none, le-false, number-le, past, ahead, above-none, piece-more, piece-none, reach-off}

within : (first count k : ℕ) → k < count → lane_in first count k ≡ Some (first + k)
within first count k h = ap (λ b. cond b (Some (first + k)) None) (lt-ltb k count h)

beyond : (first count k : ℕ) → count ≤ k → lane_in first count k ≡ None
beyond first count k h = go (ltb k count) refl
  where
    go : (u : Bool) → ltb k count ≡ u → lane_in first count k ≡ None
    go true e = absurd (let l = ltb-true k count e in omega arith)
    go false e = ap (λ b. cond b (Some (first + k)) None) e

-- lanes of the same numbers are as many
pub same-count : (first count : ℕ) (o : Option LaneSpan) → ((k : ℕ) → lane_in first count k ≡ row_number_in o k) → count ≡ lanes_count o
same-count first zero None h = refl
same-count first (suc n) None h = absurd (let a = within first (suc n) 0 (omega arith) in let b = h 0 in cc)
same-count first count (Some own) h = go (ltb count own.count) refl (ltb own.count count) refl
  where
    go : (u : Bool) → ltb count own.count ≡ u → (w : Bool) → ltb own.count count ≡ w → count ≡ own.count
    go true e w f = absurd (let a = within own.first own.count count (ltb-true count own.count e) in let b = beyond first count count (omega arith) in let d = h count in cc)
    go false e true f = absurd (let a = within first count own.count (ltb-true own.count count f) in let b = beyond own.first own.count own.count (omega arith) in let d = h own.count in cc)
    go false e false f = let a = ltb-false count own.count e in let b = ltb-false own.count count f in omega arith

pub any-in : (test : ℕ → Bool) (a n x : ℕ) → a ≤ x → x < a + n → test x ≡ true → list_any test (numbers a n) ≡ true
any-in test a zero x lo hi e = absurd (omega arith)
any-in test a (suc n) x lo hi e = go (λ l h. any-in test (suc a) n x l h e) (eqb a x) refl
  where
    go : (suc a ≤ x → x < suc a + n → list_any test (numbers (suc a) n) ≡ true) → (u : Bool) → eqb a x ≡ u → list_any test (numbers a (suc n)) ≡ true
    go ih true f = or-left (test a) (list_any test (numbers (suc a) n)) (subst (λ y. test y ≡ true) (sym (eqb-true a x f)) e)
    go ih false f = or-right (test a) (list_any test (numbers (suc a) n)) (ih (omega (arith, unequal)) (omega arith))
      where
        unequal : a ≡ x → ⊥
        unequal q = let z = eq-eqb a x q in absurd (cc)

pub none-in : (test : ℕ → Bool) (a n : ℕ) → ((x : ℕ) → a ≤ x → x < a + n → test x ≡ false) → list_any test (numbers a n) ≡ false
none-in test a zero h = refl
none-in test a (suc n) h = or-none (test a) (list_any test (numbers (suc a) n)) (h a (omega arith) (omega arith)) (none-in test (suc a) n (λ x lo hi. h x (omega arith) (omega arith)))

never-last : (slots : Numbers) (e : PieceEnd) → is_never e ≡ true → end_rank slots e ≡ 0
never-last slots ends.Never h = refl
never-last slots (ends.Entry id) h = absurd (cc)
never-last slots (ends.Exit id) h = absurd (cc)
never-last slots ends.Last h = absurd (cc)

hold-low : (slots : Numbers) (s : Begun) → entry_rank slots s.start ≤ hold_rank slots s
hold-low slots s = go s.early
  where
    go : (u : Bool) → entry_rank slots s.start ≤ cond u (entry_rank slots s.start) (exit_rank slots s.start)
    go true = omega arith
    go false = omega arith

-- an instruction writes the lane at the first point that it occupies
writes-first : (slots : Numbers) (s : Begun) → writes_at slots (hold_rank slots s) s ≡ true
writes-first slots s = go s.early
  where
    go : (u : Bool) → (nat_eq (exit_rank slots s.start) (cond u (entry_rank slots s.start) (exit_rank slots s.start)) || (u && nat_eq (entry_rank slots s.start) (cond u (entry_rank slots s.start) (exit_rank slots s.start)))) ≡ true
    go true = or-right (nat_eq (exit_rank slots s.start) (entry_rank slots s.start)) (nat_eq (entry_rank slots s.start) (entry_rank slots s.start)) (eq-eqb (entry_rank slots s.start) (entry_rank slots s.start) refl)
    go false = or-left (nat_eq (exit_rank slots s.start) (exit_rank slots s.start)) false (eq-eqb (exit_rank slots s.start) (exit_rank slots s.start) refl)

-- the first occupied points rise
hold-le : (slots : Numbers) (n : ℕ) (ss : List Begun) (i j : ℕ) (d : Begun) → rises_from slots n ss ≡ true → i ≤ j → j < length ss → hold_rank slots (get_or ss i d) ≤ hold_rank slots (get_or ss j d)
hold-le slots n [] i j d r w h = absurd (omega arith)
hold-le slots n (s ∷ ss) zero zero d r w h = omega arith
hold-le slots n (s ∷ ss) zero (suc j) d r w h =
    let x = above slots (number_of slots s.start) ss j d (both-right (ltb n (number_of slots s.start)) (rises_from slots (number_of slots s.start) ss) r) (omega arith) in
    let low = number-le slots s in
    let high = hold-low slots (get_or ss j d) in
    omega arith
hold-le slots n (s ∷ ss) (suc i) zero d r w h = absurd (omega arith)
hold-le slots n (s ∷ ss) (suc i) (suc j) d r w h = hold-le slots (number_of slots s.start) ss i j d (both-right (ltb n (number_of slots s.start)) (rises_from slots (number_of slots s.start) ss) r) (omega arith) (omega arith)

pub hold-parted : (slots : Numbers) (at : ℕ) (ss : List Begun) → rises_from slots 0 ss ≡ true → IsPartitionedBy (λ s. nat_le (hold_rank slots s) at) ss
hold-parted slots at ss r i j d w h e =
    let x = leb-true (hold_rank slots (get_or ss j d)) at e in
    let y = hold-le slots 0 ss i j d r w h in
    le-leb (hold_rank slots (get_or ss i d)) at (omega arith)

module _ (slots : Numbers) (last : ℕ) where
  abbrev starts : Begun → Bool
  starts s = nat_le (hold_rank slots s) last

  count-more : (s : Begun) (ss : List Begun) → starts s ≡ true → begun_by slots last (s ∷ ss) ≡ suc (begun_by slots last ss)
  count-more s ss e = ap (λ b. cond b (suc (begun_by slots last ss)) 0) e

  count-none : (s : Begun) (ss : List Begun) → starts s ≡ false → begun_by slots last (s ∷ ss) ≡ 0
  count-none s ss e = ap (λ b. cond b (suc (begun_by slots last ss)) 0) e

  -- where no piece begins by the point, all before it lies in the one that begins with the block
  low : (m : ℕ) (ss : List Begun) → rises_from slots m ss ≡ true → begun_by slots last ss ≡ 0 → (x : ℕ) → x ≤ last → (piece_at slots x ss ≡ 0) × (list_any (writes_at slots x) ss ≡ false)
  low m [] r e x le = (refl, refl)
  low m (s ∷ ss) r e x le = go (starts s) refl
    where
      go : (u : Bool) → starts s ≡ u → (piece_at slots x (s ∷ ss) ≡ 0) × (list_any (writes_at slots x) (s ∷ ss) ≡ false)
      go true f = absurd (let h = count-more s ss f in omega (arith, h, e))
      go false f =
          let late = leb-false (hold_rank slots s) last f in
          let high = number-le slots s in (
            piece-none slots x s ss (le-false (exit_rank slots s.start) x (omega arith)),
            or-none (writes_at slots x s) (list_any (writes_at slots x) ss) (ahead slots x s (omega arith))
                (above-none slots x (number_of slots s.start) ss (both-right (ltb m (number_of slots s.start)) (rises_from slots (number_of slots s.start) ss) r) (omega arith)),
          )

  -- the last piece that begins by the point, and its number
  record IsLast (m : ℕ) (ss : List Begun) (k : ℕ) (s : Begun) : Type 0 where
    rise : m < number_of slots s.start
    hold : hold_rank slots s ≤ last
    piece : (x : ℕ) → exit_rank slots s.start ≤ x → x ≤ last → piece_at slots x ss ≡ k
    none : (x : ℕ) → exit_rank slots s.start < x → x ≤ last → list_any (writes_at slots x) ss ≡ false
    writes : (x : ℕ) → writes_at slots x s ≡ true → list_any (writes_at slots x) ss ≡ true

  top : (m : ℕ) (ss : List Begun) (j : ℕ) (s : Begun) → rises_from slots m ss ≡ true → begun_by slots last ss ≡ suc j → slice_get ss j ≡ Some s → IsLast m ss (suc j) s
  top m [] j s r e g = absurd (cc)
  top m (t ∷ ts) j s r e g = go (λ k z h. top (number_of slots t.start) ts k s later z h) (starts t) refl
    where
      more : m < number_of slots t.start
      more = ltb-true m (number_of slots t.start) (both-left (ltb m (number_of slots t.start)) (rises_from slots (number_of slots t.start) ts) r)

      later : rises_from slots (number_of slots t.start) ts ≡ true
      later = both-right (ltb m (number_of slots t.start)) (rises_from slots (number_of slots t.start) ts) r

      first : starts t ≡ true → begun_by slots last ts ≡ 0 → IsLast m (t ∷ ts) 1 t
      first f z = record {
        rise = more;
        hold = leb-true (hold_rank slots t) last f;
        piece = λ x lo hi. piece-more slots x t ts (le-leb (exit_rank slots t.start) x lo) ∙ ap suc (low (number_of slots t.start) ts later z x hi).0;
        none = λ x lo hi. or-none (writes_at slots x t) (list_any (writes_at slots x) ts) (past slots x t lo) (low (number_of slots t.start) ts later z x hi).1;
        writes = λ x w. or-left (writes_at slots x t) (list_any (writes_at slots x) ts) w;
      }

      here : ((k : ℕ) → begun_by slots last ts ≡ suc k → slice_get ts k ≡ Some s → IsLast (number_of slots t.start) ts (suc k) s) → (j : ℕ) → starts t ≡ true → slice_get (t ∷ ts) j ≡ Some s → begun_by slots last ts ≡ j → IsLast m (t ∷ ts) (suc j) s
      here rest zero f g z = let same : t ≡ s = cc in subst (λ y. IsLast m (t ∷ ts) 1 y) same (first f z)
      here rest (suc k) f g z =
          let ih = rest k z g in
          let up = ih.rise in
          record {
            rise = omega (arith, more);
            hold = ih.hold;
            piece = λ x lo hi. piece-more slots x t ts (le-leb (exit_rank slots t.start) x (omega arith)) ∙ ap suc (ih.piece x lo hi);
            none = λ x lo hi. or-none (writes_at slots x t) (list_any (writes_at slots x) ts) (past slots x t (omega arith)) (ih.none x lo hi);
            writes = λ x w. or-right (writes_at slots x t) (list_any (writes_at slots x) ts) (ih.writes x w);
          }

      go : ((k : ℕ) → begun_by slots last ts ≡ suc k → slice_get ts k ≡ Some s → IsLast (number_of slots t.start) ts (suc k) s) → (u : Bool) → starts t ≡ u → IsLast m (t ∷ ts) (suc j) s
      go rest true f = let z = count-more t ts f in here rest j f g (omega (arith, z, e))
      go rest false f = absurd (let z = count-none t ts f in omega (arith, z, e))

  -- there is one
  top-none : (ss : List Begun) (j : ℕ) → begun_by slots last ss ≡ suc j → slice_get ss j ≡ None → ⊥
  top-none [] j e g = absurd (cc)
  top-none (t ∷ ts) j e g = go (λ k z h. top-none ts k z h) (starts t) refl
    where
      here : ((k : ℕ) → begun_by slots last ts ≡ suc k → slice_get ts k ≡ None → ⊥) → (j : ℕ) → slice_get (t ∷ ts) j ≡ None → begun_by slots last ts ≡ j → ⊥
      here rest zero g z = absurd (cc)
      here rest (suc k) g z = rest k z g

      go : ((k : ℕ) → begun_by slots last ts ≡ suc k → slice_get ts k ≡ None → ⊥) → (u : Bool) → starts t ≡ u → ⊥
      go rest true f = let z = count-more t ts f in here rest j g (omega (arith, z, e))
      go rest false f = absurd (let z = count-none t ts f in omega (arith, z, e))

  module _ (v : Seen) (rises : rises_from slots 0 v.segments ≡ true) (from : ℕ) (le : from ≤ last) where
    abbrev met : Bool
    met = list_any (held_at slots v) (numbers from (last + 1 - from))

    held-in : (x : ℕ) → from ≤ x → x ≤ last → held_at slots v x ≡ true → met ≡ true
    held-in x lo hi h = any-in (held_at slots v) from (last + 1 - from) x lo (omega arith) h

    held-none : ((x : ℕ) → from ≤ x → x ≤ last → held_at slots v x ≡ false) → met ≡ false
    held-none h = none-in (held_at slots v) from (last + 1 - from) (λ x lo hi. h x lo (omega arith))

    met-first : begun_by slots last v.segments ≡ 0 → met ≡ reaches slots v.end from
    met-first z = go (reaches slots v.end from) refl
      where
        seen : (x : ℕ) → x ≤ last → seen_at slots v x ≡ reaches slots v.end x
        seen x hi = ap (λ k. reaches slots (end_in v k) x) (low 0 v.segments rises z x hi).0

        go : (u : Bool) → reaches slots v.end from ≡ u → met ≡ reaches slots v.end from
        go true e = held-in from (omega arith) le (or-left (seen_at slots v from) (list_any (writes_at slots from) v.segments) (seen from le ∙ e)) ∙ sym e
        go false e = held-none (λ x lo hi. or-none (seen_at slots v x) (list_any (writes_at slots x) v.segments) (seen x hi ∙ reach-off slots v.end from x e lo) (low 0 v.segments rises z x hi).1) ∙ sym e

    met-later : (j : ℕ) (s : Begun) → begun_by slots last v.segments ≡ suc j → slice_get v.segments j ≡ Some s → met ≡ nat_le from (max (end_rank slots s.end) (exit_rank slots s.start))
    met-later j s z g = go (nat_le from (max (end_rank slots s.end) (exit_rank slots s.start))) refl
      where
        there : IsLast 0 v.segments (suc j) s
        there = top 0 v.segments j s rises z g

        written : (x : ℕ) → from ≤ x → x ≤ last → writes_at slots x s ≡ true → met ≡ true
        written x lo hi w = held-in x lo hi (or-right (seen_at slots v x) (list_any (writes_at slots x) v.segments) (there.writes x w))

        seen : (x : ℕ) → exit_rank slots s.start ≤ x → x ≤ last → seen_at slots v x ≡ reaches slots s.end x
        seen x lo hi = ap (λ k. reaches slots (end_in v k) x) (there.piece x lo hi) ∙ ap (λ o. reaches slots (begun_end o) x) g

        alive : from ≤ end_rank slots s.end → exit_rank slots s.start < from → (u : Bool) → is_never s.end ≡ u → reaches slots s.end from ≡ true
        alive lo hi true f = absurd (let n = never-last slots s.end f in omega (arith, n))
        alive lo hi false f = both (not (is_never s.end)) (nat_le from (end_rank slots s.end)) (ap not f) (le-leb from (end_rank slots s.end) lo)

        behind : (x : ℕ) → end_rank slots s.end < x → reaches slots s.end x ≡ false
        behind x lo = and-none (not (is_never s.end)) (nat_le x (end_rank slots s.end)) (le-false x (end_rank slots s.end) lo)

        by-writing : from ≤ exit_rank slots s.start → (u : Bool) → nat_le from (hold_rank slots s) ≡ u → met ≡ true
        by-writing lo true f = written (hold_rank slots s) (leb-true from (hold_rank slots s) f) there.hold (writes-first slots s)
        by-writing lo false f =
            let a = leb-false from (hold_rank slots s) f in
            let b = hold-low slots s in
            let same : exit_rank slots s.start ≡ from = omega arith in
            written from (omega arith) le (or-left (nat_eq (exit_rank slots s.start) from) (s.early && nat_eq (entry_rank slots s.start) from) (eq-eqb (exit_rank slots s.start) from same))

        yes : from ≤ max (end_rank slots s.end) (exit_rank slots s.start) → (u : Bool) → nat_le from (exit_rank slots s.start) ≡ u → met ≡ true
        yes lo true f = by-writing (leb-true from (exit_rank slots s.start) f) (nat_le from (hold_rank slots s)) refl
        yes lo false f =
            let a = leb-false from (exit_rank slots s.start) f in
            held-in from (omega arith) le (or-left (seen_at slots v from) (list_any (writes_at slots from) v.segments) (seen from (omega arith) le ∙ alive (omega arith) a (is_never s.end) refl))

        go : (u : Bool) → nat_le from (max (end_rank slots s.end) (exit_rank slots s.start)) ≡ u → met ≡ nat_le from (max (end_rank slots s.end) (exit_rank slots s.start))
        go true e = yes (leb-true from (max (end_rank slots s.end) (exit_rank slots s.start)) e) (nat_le from (exit_rank slots s.start)) refl ∙ sym e
        go false e =
            let a = leb-false from (max (end_rank slots s.end) (exit_rank slots s.start)) e in
            held-none (λ x lo hi. or-none (seen_at slots v x) (list_any (writes_at slots x) v.segments) (seen x (omega arith) hi ∙ behind x (omega arith)) (there.none x (omega arith) hi)) ∙ sym e

-- the points of the piece end at the point or behind it
abbrev pub lasts : Numbers → ℕ → Option Extent → Bool
lasts slots from None = false
lasts slots from (Some e) = nat_le from (last_rank slots e)

block-lasts : (slots : Numbers) (from : ℕ) (e : PieceEnd) → lasts slots from (block_extent e) ≡ reaches slots e from
block-lasts slots from e = go (is_never e)
  where
    go : (u : Bool) → lasts slots from (cond u None (Some (record { start = None; early = false; end = e }))) ≡ (not u && nat_le from (end_rank slots e))
    go true = refl
    go false = refl

pub met-is : (slots : Numbers) (c : Cell) (at : Stretch) → rises_from slots 0 (seen_cell c).segments ≡ true → at.first ≤ at.last → is_met_in slots (seen_cell c) at ≡ lasts slots at.first (extent_in (Some c) (begun_by slots at.last (seen_cell c).segments))
met-is slots c at r le = go (begun_by slots at.last (seen_cell c).segments) refl
  where
    later : (j : ℕ) → begun_by slots at.last (seen_cell c).segments ≡ suc j → (o : Option DefPiece) → slice_get c.segments.items j ≡ o → is_met_in slots (seen_cell c) at ≡ lasts slots at.first (option_map segment_extent o)
    later j e None g = absurd (top-none slots at.last (seen_cell c).segments j e (slice_get-map begun c.segments.items j ∙ ap (option_map begun) g))
    later j e (Some s) g = met-later slots at.last (seen_cell c) r at.first le j (begun s) e (slice_get-map begun c.segments.items j ∙ ap (option_map begun) g)

    go : (k : ℕ) → begun_by slots at.last (seen_cell c).segments ≡ k → is_met_in slots (seen_cell c) at ≡ lasts slots at.first (extent_in (Some c) (begun_by slots at.last (seen_cell c).segments))
    go zero e = met-first slots at.last (seen_cell c) r at.first le e ∙ sym (block-lasts slots at.first c.first.end) ∙ ap (λ k. lasts slots at.first (extent_in (Some c) k)) (sym e)
    go (suc j) e = later j e (slice_get c.segments.items j) refl ∙ ap (λ k. lasts slots at.first (extent_in (Some c) k)) (sym e)

pub unseen-none : (slots : Numbers) (at : Stretch) → is_met_in slots unseen at ≡ false
unseen-none slots at = none-in (held_at slots unseen) at.first (at.last + 1 - at.first) (λ x lo hi. refl)
