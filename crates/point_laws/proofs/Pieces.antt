-- Where each piece ends before the next one begins, the points of a lane in a block are those that its pieces cover.
use Rattle.std.proofs.Common.{◌≡◌, ◌<◌, ◌≤◌, ℕ, zero, suc, Bool, true, false, cond, ◌&&◌, ltb, List, [], ◌∷◌, Option, None, Some, refl, sym, ap, ◌∙◌, subst, arith, max}
use Rattle.std.specs.Prelude.{◌||◌, not, nat_eq, nat_le, slice_get}
use Rattle.std.specs.List.{list_any}
use Rattle.std.proofs.lemmas.Bool.{ltb-true, leb-true, leb-false, le-leb, eqb-true, eq-eqb}
use Rattle.slot_index.specs.Order.{number_of}
use Rattle.live_laws.proofs.Effects.Blocks.{slice-member}
use Rattle.live_laws.proofs.Effects.Lists.{any-in}
use Rattle.live_lanes.specs.declared.ask.extent.Extent.{Extent}
use Rattle.live_lanes.specs.declared.row.PieceEnd.{PieceEnd}
use Rattle.live_lanes.specs.declared.row.PieceEnd.TheVariants as ends
use Rattle.live_lanes.specs.Table.{Numbers, Begun, Seen, entry_rank, exit_rank, end_rank, end_in, begun_end, is_begun, rises_from, leading, piece_at}
use Rattle.live_lanes.specs.Reach.{is_never, reaches, seen_at}
use Rattle.live_lanes.specs.Held.{writes_at, held_at, hold_rank}
use Rattle.live_lanes.proofs.Cells.{both, both-left, both-right}
use Rattle.live_lanes.proofs.Held.{or-left, or-right, le-false, number-le, piece-more, piece-none, reached}
use Rattle.point_laws.specs.Covered.{covers}

-- the points of the piece that begins with the block
abbrev pub from_start : PieceEnd → Extent
from_start e = record { start = None; early = false; end = e }

-- those of one that begins with a writing
abbrev pub from_writing : Begun → Extent
from_writing s = record { start = Some s.start; early = s.early; end = s.end }

-- one of the pieces of a lane in a block
pub data IsPiece (v : Seen) (e : Extent) : Type 0 where
  at_start : is_never v.end ≡ false → e ≡ from_start v.end → IsPiece v e
  at_writing : (k : ℕ) (s : Begun) → slice_get v.segments k ≡ Some s → e ≡ from_writing s → IsPiece v e

pub any-of : {X : Type 0} (p : X → Bool) (xs : List X) → list_any p xs ≡ true → (k : ℕ) × (x : X) × (slice_get xs k ≡ Some x) × (p x ≡ true)
any-of p [] e = absurd (cc)
any-of {X} p (x ∷ xs) e = go (p x) refl e (any-of p xs)
  where
    go : (u : Bool) → p x ≡ u → (u || list_any p xs) ≡ true → (list_any p xs ≡ true → (k : ℕ) × (y : X) × (slice_get xs k ≡ Some y) × (p y ≡ true)) → (k : ℕ) × (y : X) × (slice_get (x ∷ xs) k ≡ Some y) × (p y ≡ true)
    go true f g ih = (0, x, refl, f)
    go false f g ih = let z = ih g in (suc z.0, z.1, z.2, z.3)

-- elements in a row that pass a test, and the first that doesn't

pub leading-passes : {X : Type 0} (test : X → Bool) (xs : List X) (k : ℕ) (x : X) → slice_get xs k ≡ Some x → k < leading test xs → test x ≡ true
leading-passes test [] k x e lt = absurd (cc)
leading-passes test (y ∷ xs) k x e lt = go (test y) refl k e lt (λ j g h. leading-passes test xs j x g h)
  where
    go : (u : Bool) → test y ≡ u → (j : ℕ) → slice_get (y ∷ xs) j ≡ Some x → j < cond u (suc (leading test xs)) 0 → ((i : ℕ) → slice_get xs i ≡ Some x → i < leading test xs → test x ≡ true) → test x ≡ true
    go true f zero g h ih = let same : y ≡ x = cc in ap test (sym same) ∙ f
    go true f (suc j) g h ih = ih j g (omega arith)
    go false f j g h ih = absurd (omega arith)

pub leading-ends : {X : Type 0} (test : X → Bool) (xs : List X) (x : X) → slice_get xs (leading test xs) ≡ Some x → test x ≡ false
leading-ends test [] x e = absurd (cc)
leading-ends test (y ∷ xs) x e = go (test y) refl e (λ h. leading-ends test xs x h)
  where
    go : (u : Bool) → test y ≡ u → slice_get (y ∷ xs) (cond u (suc (leading test xs)) 0) ≡ Some x → (slice_get xs (leading test xs) ≡ Some x → test x ≡ false) → test x ≡ false
    go true f g ih = ih g
    go false f g ih = let same : y ≡ x = cc in ap test (sym same) ∙ f

module _ (slots : Numbers) where
  -- the numbers of pieces are above those before them
  later-above : (m : ℕ) (ss : List Begun) (k : ℕ) (s : Begun) → rises_from slots m ss ≡ true → slice_get ss k ≡ Some s → m < number_of slots s.start
  later-above m [] k s r e = absurd (cc)
  later-above m (x ∷ ss) zero s r e =
      let same : x ≡ s = cc in
      subst (λ y. m < number_of slots y.start) same (ltb-true m (number_of slots x.start) (both-left (ltb m (number_of slots x.start)) (rises_from slots (number_of slots x.start) ss) r))
  later-above m (x ∷ ss) (suc k) s r e =
      let low = ltb-true m (number_of slots x.start) (both-left (ltb m (number_of slots x.start)) (rises_from slots (number_of slots x.start) ss) r) in
      let ih = later-above (number_of slots x.start) ss k s (both-right (ltb m (number_of slots x.start)) (rises_from slots (number_of slots x.start) ss) r) e in
      omega (arith, low, ih)

  module _ (at : ℕ) where
    -- before the first writing lies the piece that begins with the block
    no-piece : (ss : List Begun) → ((s : Begun) → slice_get ss 0 ≡ Some s → at < exit_rank slots s.start) → piece_at slots at ss ≡ 0
    no-piece [] h = refl
    no-piece (s ∷ ss) h = piece-none slots at s ss (le-false (exit_rank slots s.start) at (h s refl))

    -- between two writings lies the one that begins with the first of them
    piece-is : (m : ℕ) (ss : List Begun) (k : ℕ) (s : Begun) → rises_from slots m ss ≡ true → slice_get ss k ≡ Some s → exit_rank slots s.start ≤ at → ((x : Begun) → slice_get ss (suc k) ≡ Some x → at < exit_rank slots x.start) → piece_at slots at ss ≡ suc k
    piece-is m [] k s r e le h = absurd (cc)
    piece-is m (x ∷ ss) zero s r e le h =
        let same : x ≡ s = cc in
        let low : exit_rank slots x.start ≤ at = subst (λ y. exit_rank slots y.start ≤ at) (sym same) le in
        piece-more slots at x ss (le-leb (exit_rank slots x.start) at low) ∙ ap suc (no-piece ss (λ y g. h y g))
    piece-is m (x ∷ ss) (suc k) s r e le h =
        let later = both-right (ltb m (number_of slots x.start)) (rises_from slots (number_of slots x.start) ss) r in
        let low = later-above (number_of slots x.start) ss k s later e in
        piece-more slots at x ss (le-leb (exit_rank slots x.start) at (omega (arith, low, le))) ∙ ap suc (piece-is (number_of slots x.start) ss k s later e le (λ y g. h y g))

  module _ (v : Seen) (rises : rises_from slots 0 v.segments ≡ true) (within : (k : ℕ) (s : Begun) → slice_get v.segments k ≡ Some s → end_rank slots (end_in v k) < exit_rank slots s.start) (at : ℕ) where
    is-held : seen_at slots v at ≡ true → held_at slots v at ≡ true
    is-held h = or-left (seen_at slots v at) (list_any (writes_at slots at) v.segments) h

    is-written : (k : ℕ) (s : Begun) → slice_get v.segments k ≡ Some s → writes_at slots at s ≡ true → held_at slots v at ≡ true
    is-written k s e h = or-right (seen_at slots v at) (list_any (writes_at slots at) v.segments) (any-in (writes_at slots at) s v.segments (slice-member v.segments k s e) h)

    reach-to : (e : PieceEnd) → is_never e ≡ false → at ≤ end_rank slots e → reaches slots e at ≡ true
    reach-to e f le = both (not (is_never e)) (nat_le at (end_rank slots e)) (ap not f) (le-leb at (end_rank slots e) le)

    never-zero : (e : PieceEnd) → 0 < end_rank slots e → is_never e ≡ false
    never-zero ends.Never h = absurd (omega arith)
    never-zero (ends.Entry id) h = refl
    never-zero (ends.Exit id) h = refl
    never-zero ends.Last h = refl

    by-writing : (s : Begun) → hold_rank slots s ≤ at → at ≤ exit_rank slots s.start → writes_at slots at s ≡ true
    by-writing s lo hi = go (nat_eq (exit_rank slots s.start) at) refl
      where
        early : (u : Bool) → at < exit_rank slots s.start → cond u (entry_rank slots s.start) (exit_rank slots s.start) ≤ at → (u && nat_eq (entry_rank slots s.start) at) ≡ true
        early true lt le = eq-eqb (entry_rank slots s.start) at (omega arith)
        early false lt le = absurd (omega arith)

        unequal : nat_eq (exit_rank slots s.start) at ≡ false → exit_rank slots s.start ≡ at → ⊥
        unequal f q = let z = eq-eqb (exit_rank slots s.start) at q in absurd (cc)

        go : (u : Bool) → nat_eq (exit_rank slots s.start) at ≡ u → writes_at slots at s ≡ true
        go true f = or-left (nat_eq (exit_rank slots s.start) at) (s.early && nat_eq (entry_rank slots s.start) at) f
        go false f = or-right (nat_eq (exit_rank slots s.start) at) (s.early && nat_eq (entry_rank slots s.start) at) (early s.early (omega (arith, unequal f, hi)) lo)

    -- what a piece covers is held
    pub piece-held : (e : Extent) → IsPiece v e → covers slots at e ≡ true → held_at slots v at ≡ true
    piece-held e (at_start never same) h =
        let g : covers slots at (from_start v.end) ≡ true = ap (covers slots at) (sym same) ∙ h in
        let hi = leb-true at (end_rank slots v.end) (both-right (nat_le 0 at) (nat_le at (end_rank slots v.end)) g) in
        is-held (ap (λ k. reaches slots (end_in v k) at) (no-piece at v.segments (λ s f. let w = within 0 s f in omega (arith, w, hi))) ∙ reach-to v.end never hi)
    piece-held e (at_writing k s there same) h = go (nat_le at (exit_rank slots s.start)) refl
      where
        g : covers slots at (from_writing s) ≡ true
        g = ap (covers slots at) (sym same) ∙ h

        lo : hold_rank slots s ≤ at
        lo = leb-true (hold_rank slots s) at (both-left (nat_le (hold_rank slots s) at) (nat_le at (max (end_rank slots s.end) (exit_rank slots s.start))) g)

        hi : at ≤ max (end_rank slots s.end) (exit_rank slots s.start)
        hi = leb-true at (max (end_rank slots s.end) (exit_rank slots s.start)) (both-right (nat_le (hold_rank slots s) at) (nat_le at (max (end_rank slots s.end) (exit_rank slots s.start))) g)

        end-is : end_in v (suc k) ≡ s.end
        end-is = ap begun_end there

        go : (u : Bool) → nat_le at (exit_rank slots s.start) ≡ u → held_at slots v at ≡ true
        go true f = is-written k s there (by-writing s lo (leb-true at (exit_rank slots s.start) f))
        go false f =
            let behind = leb-false at (exit_rank slots s.start) f in
            let last : at ≤ end_rank slots s.end = omega (arith, hi, behind) in
            let piece = piece-is at 0 v.segments k s rises there (omega (arith, behind)) (λ x q. let w = within (suc k) x q in let n = ap (end_rank slots) end-is in omega (arith, w, n, last)) in
            is-held (ap (λ j. reaches slots (end_in v j) at) piece ∙ ap (λ y. reaches slots y at) end-is ∙ reach-to s.end (never-zero s.end (omega (arith, last, behind))) last)

    -- what is held is covered by a piece
    pub held-piece : held_at slots v at ≡ true → (e : Extent) × IsPiece v e × (covers slots at e ≡ true)
    held-piece h = go (seen_at slots v at) refl h
      where
        Found : Type 0
        Found = (e : Extent) × IsPiece v e × (covers slots at e ≡ true)

        live : (k : ℕ) → piece_at slots at v.segments ≡ k → reaches slots (end_in v k) at ≡ true → Found
        live zero p r = (from_start v.end, at_start (off (is_never v.end) (both-left (not (is_never v.end)) (nat_le at (end_rank slots v.end)) r)) refl, both (nat_le 0 at) (nat_le at (end_rank slots v.end)) (le-leb 0 at (omega arith)) (both-right (not (is_never v.end)) (nat_le at (end_rank slots v.end)) r))
          where
            off : (u : Bool) → not u ≡ true → u ≡ false
            off true e = absurd (cc)
            off false e = refl
        live (suc j) p r = at-piece (slice_get v.segments j) refl r
          where
            at-piece : (o : Option Begun) → slice_get v.segments j ≡ o → reaches slots (begun_end o) at ≡ true → Found
            at-piece None f g = absurd (cc)
            at-piece (Some s) f g =
                let begun = leb-true (exit_rank slots s.start) at (leading-passes (is_begun slots at) v.segments j s f (omega (arith, p))) in
                let low = number-le slots s in
                let last = reached slots s.end at g in
                (from_writing s, at_writing j s f refl, both (nat_le (hold_rank slots s) at) (nat_le at (max (end_rank slots s.end) (exit_rank slots s.start))) (le-leb (hold_rank slots s) at (omega (arith, low, begun))) (le-leb at (max (end_rank slots s.end) (exit_rank slots s.start)) (omega (arith, last))))

        written : ((k : ℕ) × (s : Begun) × (slice_get v.segments k ≡ Some s) × (writes_at slots at s ≡ true)) → Found
        written z = (from_writing z.1, at_writing z.0 z.1 z.2 refl, both (nat_le (hold_rank slots z.1) at) (nat_le at (max (end_rank slots z.1.end) (exit_rank slots z.1.start))) (le-leb (hold_rank slots z.1) at (here (nat_eq (exit_rank slots z.1.start) at) refl z.3).0) (le-leb at (max (end_rank slots z.1.end) (exit_rank slots z.1.start)) (let u = (here (nat_eq (exit_rank slots z.1.start) at) refl z.3).1 in omega (arith, u))))
          where
            early : (u : Bool) → (u && nat_eq (entry_rank slots z.1.start) at) ≡ true → (cond u (entry_rank slots z.1.start) (exit_rank slots z.1.start) ≤ at) × (at ≤ exit_rank slots z.1.start)
            early true e = let q = eqb-true (entry_rank slots z.1.start) at e in (omega (arith, q), omega (arith, q))
            early false e = absurd (cc)

            here : (u : Bool) → nat_eq (exit_rank slots z.1.start) at ≡ u → (u || (z.1.early && nat_eq (entry_rank slots z.1.start) at)) ≡ true → (hold_rank slots z.1 ≤ at) × (at ≤ exit_rank slots z.1.start)
            here true e g = let q = eqb-true (exit_rank slots z.1.start) at e in let low = number-le slots z.1 in (omega (arith, q, low), omega (arith, q))
            here false e g = early z.1.early g

        go : (u : Bool) → seen_at slots v at ≡ u → (u || list_any (writes_at slots at) v.segments) ≡ true → Found
        go true e g = live (piece_at slots at v.segments) refl e
        go false e g = written (any-of (writes_at slots at) v.segments g)
