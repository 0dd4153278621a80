-- A run of touched places is clear just where it is so from each place to the next one.
use Rattle.std.proofs.Common.{◌≡◌, ◌∙◌, ◌⊎◌, inl, inr, ℕ, zero, suc, ◌+◌, ◌<◌, ◌≤◌, Bool, true, false, cond, List, [], ◌∷◌, refl, sym, ap, subst, arith, length, Option, None, Some}
use Rattle.std.specs.Prelude.{filter, flat_map, slice_get, nat_le, ◌&&◌}
use Rattle.std.specs.List.{list_all}
use Rattle.std.proofs.lemmas.Bool.{and_parts, and_from, leb-true, le-leb, cases_lt, true≢false}
use Rattle.meaning.specs.Live.{Among, here, there}
use Rattle.target_base.specs.declared.types.Target.{Target}
use Rattle.target_base.specs.declared.types.Reg.{Reg}
use Rattle.mir_func.specs.Value.{Function}
use Rattle.mir_meaning.specs.Points.{Point, Entry, Exit, block_points, all_points}
use Rattle.live_lanes.specs.declared.table.Table.{Table}
use Rattle.split_choose.specs.Offers.{View, Touched, from_point, to_point, touched_places, clashes_not, clear_along}
use Rattle.split_choose.specs.Seen.{FindsPlaces}
use Rattle.split_choose.specs.LongRuns.{IsRun, of_both, is_near}
use Rattle.split_choose.proofs.Covers.{among-cases}
use Rattle.split_choose.proofs.Ranked.{AreRanked, between-ranked}
use Rattle.split_choose.proofs.Best.{get-within}
use Rattle.split_choose.proofs.Sought.{AreTold, get-some}
use Rattle.split_choose.proofs.Apart.{index_in, points-rise}
use Rattle.split_choose.proofs.Turns.{IsIn, InTurn, IsAt, turn-at, turn-behind, places-turn}

-- what passes a test passes another one

among-filter : {X : Type 0} (c g : X → Bool) (xs : List X) → list_all g (filter c xs) ≡ true → (x : X) → Among x xs → c x ≡ true → g x ≡ true
among-filter c g [] h x m e = elim m [ ]
among-filter {X} c g (y ∷ xs) h x m q = go (c y) refl (among-cases x y xs m) (among-filter c g xs)
  where
    go : (b : Bool) → c y ≡ b → (x ≡ y) ⊎ Among x xs → (list_all g (filter c xs) ≡ true → (z : X) → Among z xs → c z ≡ true → g z ≡ true) → g x ≡ true
    go true d (inl e) ih = let p = and_parts (g y) (list_all g (filter c xs)) (rw d at h) in ap g e ∙ p.0
    go true d (inr k) ih = let p = and_parts (g y) (list_all g (filter c xs)) (rw d at h) in ih p.1 x k q
    go false d (inl e) ih = absurd (true≢false (sym q ∙ (ap c e ∙ d)))
    go false d (inr k) ih = ih (rw d at h) x k q

all-filter : {X : Type 0} (c g : X → Bool) (xs : List X) → ((x : X) → Among x xs → c x ≡ true → g x ≡ true) → list_all g (filter c xs) ≡ true
all-filter c g [] h = refl
all-filter {X} c g (y ∷ xs) h = go (c y) refl (all-filter c g xs (λ x m. h x (there m)))
  where
    go : (b : Bool) → c y ≡ b → list_all g (filter c xs) ≡ true → list_all g (filter c (y ∷ xs)) ≡ true
    go true d ih = rw d (and_from (g y) (list_all g (filter c xs)) (h y here d) ih)
    go false d ih = rw d ih

module _ (t : Target) (f : Function) (x : Table) (v : ℕ) (view : View) (finds : FindsPlaces t f x v) where
  abbrev all : List Point
  all = flat_map block_points f.blocks

  abbrev rank : Point → ℕ
  rank = index_in all

  abbrev places : List Touched
  places = touched_places t f v view

  rising : AreRanked rank 0 all
  rising = points-rise x f.blocks finds.instrs finds.placed

  turns : InTurn rank all 0 places
  turns = places-turn rank all t f v view finds.ended rising (λ p m. m)

  at-place : (k : ℕ) (p : Touched) → slice_get places k ≡ Some p → IsAt rank all 0 p
  at-place k p e = turn-at rank all 0 places k p turns e

  same-place : (k i : ℕ) (p q : Touched) → k ≡ i → slice_get places k ≡ Some p → slice_get places i ≡ Some q → p ≡ q
  same-place k i p q h e g = let a : slice_get places k ≡ slice_get places i = ap (slice_get places) h in cc

  entries : (k i : ℕ) (p q : Touched) → k ≤ i → slice_get places k ≡ Some p → slice_get places i ≡ Some q → rank (Entry p.first) ≤ rank (Entry q.first)
  entries k i p q le e g = elim (cases_lt k i) [
    | inl less ↦ (let a = (at-place k p e).long in let b = turn-behind rank all 0 places k i p q turns less e g in omega (arith, a, b))
    | inr most ↦ (let h : k ≡ i = omega arith in let P : Touched → Type 0 = λ y. rank (Entry p.first) ≤ rank (Entry y.first) in subst P (same-place k i p q h e g) (omega arith))
  ]

  exits : (k i : ℕ) (p q : Touched) → k ≤ i → slice_get places k ≡ Some p → slice_get places i ≡ Some q → rank (Exit p.last) ≤ rank (Exit q.last)
  exits k i p q le e g = elim (cases_lt k i) [
    | inl less ↦ (let a = (at-place i q g).long in let b = turn-behind rank all 0 places k i p q turns less e g in omega (arith, a, b))
    | inr most ↦ (let h : k ≡ i = omega arith in let P : Touched → Type 0 = λ y. rank (Exit p.last) ≤ rank (Exit y.last) in subst P (same-place k i p q h e g) (omega arith))
  ]

  -- all points from one place's entry to another's exit
  abbrev Clear : Reg → Touched → Touched → Type 0
  Clear r p q = (z : Point) → Among z all → rank (Entry p.first) ≤ rank z → rank z ≤ rank (Exit q.last) → clashes_not t f v view r z ≡ true

  abbrev is_between : Touched → Touched → Point → Bool
  is_between p q z = nat_le (rank (Entry p.first)) (rank z) && nat_le (rank z) (rank (Exit q.last))

  along-is : (k i : ℕ) (p q : Touched) (r : Reg) → k ≤ i → slice_get places k ≡ Some p → slice_get places i ≡ Some q
      → list_all (clashes_not t f v view r) (filter (is_between p q) all) ≡ clear_along t f v view ((p, q), r)
  along-is k i p q r le e g =
      let a = at-place k p e in
      let b = at-place i q g in
      let low = exits k i p q le e g in
      let long = a.long in
      ap (list_all (clashes_not t f v view r)) (between-ranked rank 0 all (Entry p.first) (Exit q.last) rising a.within.entry b.within.exit (omega (arith, low, long)))

  clear-to : (k i : ℕ) (p q : Touched) (r : Reg) → k ≤ i → slice_get places k ≡ Some p → slice_get places i ≡ Some q → clear_along t f v view ((p, q), r) ≡ true → Clear r p q
  clear-to k i p q r le e g h z m low high =
      among-filter (is_between p q) (clashes_not t f v view r) all (along-is k i p q r le e g ∙ h) z m
      (and_from (nat_le (rank (Entry p.first)) (rank z)) (nat_le (rank z) (rank (Exit q.last))) (le-leb (rank (Entry p.first)) (rank z) low) (le-leb (rank z) (rank (Exit q.last)) high))

  clear-from : (k i : ℕ) (p q : Touched) (r : Reg) → k ≤ i → slice_get places k ≡ Some p → slice_get places i ≡ Some q → Clear r p q → clear_along t f v view ((p, q), r) ≡ true
  clear-from k i p q r le e g h =
      sym (along-is k i p q r le e g)
      ∙ all-filter (is_between p q) (clashes_not t f v view r) all (λ z m d. (let s = and_parts (nat_le (rank (Entry p.first)) (rank z)) (nat_le (rank z) (rank (Exit q.last))) d in
      h z m (leb-true (rank (Entry p.first)) (rank z) s.0) (leb-true (rank z) (rank (Exit q.last)) s.1)))

  pub near-is : (k : ℕ) (p q : Touched) (r : Reg) → slice_get places k ≡ Some p → slice_get places (k + 1) ≡ Some q → is_near t f v view r k ≡ clear_along t f v view ((p, q), r)
  near-is k p q r e g = ap (λ o. of_both (λ d. clear_along t f v view (d, r)) o (slice_get places (k + 1))) e ∙ ap (λ o. of_both (λ d. clear_along t f v view (d, r)) (Some p) o) g

  run-clear : (l k : ℕ) (p q : Touched) (r : Reg) → 1 ≤ l → slice_get places k ≡ Some p → slice_get places (k + l) ≡ Some q → IsRun (is_near t f v view r) k (suc l) → Clear r p q
  run-clear zero k p q r many e g run = absurd (omega arith)
  run-clear (suc zero) k p q r many e g run = clear-to k (k + 1) p q r (omega arith) e g (sym (near-is k p q r e g) ∙ run.along k (omega arith) (omega arith))
  run-clear (suc (suc l)) k p q r many e g run = λ z m low high.
      let long = get-within places (k + suc (suc l)) q g in
      let mid = get-some places (k + suc l) (omega arith) in
      let next : k + suc (suc l) ≡ k + suc l + 1 = omega arith in
      let last : slice_get places (k + suc l + 1) ≡ Some q = ap (slice_get places) (sym next) ∙ g in
      elim (cases_lt (rank (Exit mid.0.last)) (rank z)) [
        | inl behind ↦
            (let inner = (at-place (k + suc l) mid.0 mid.1).long in
            clear-to (k + suc l) (k + suc l + 1) mid.0 q r (omega arith) mid.1 last (sym (near-is (k + suc l) mid.0 q r mid.1 last) ∙ run.along (k + suc l) (omega arith) (omega arith)) z m (omega (arith, inner, behind)) high)
        | inr before ↦ run-clear (suc l) k p mid.0 r (omega arith) e mid.1 (record { along = λ i a b. run.along i a (omega arith) }) z m low before
      ]

  clear-run : (k l : ℕ) (p q : Touched) (r : Reg) → 1 ≤ l → slice_get places k ≡ Some p → slice_get places (k + l) ≡ Some q → Clear r p q → IsRun (is_near t f v view r) k (suc l)
  clear-run k l p q r many e g h = record { along = along }
    where
      along : (i : ℕ) → k ≤ i → i + 1 < k + suc l → is_near t f v view r i ≡ true
      along i low high =
          let long = get-within places (k + l) q g in
          let a = get-some places i (omega arith) in
          let b = get-some places (i + 1) (omega arith) in
          let start = entries k i p a.0 low e a.1 in
          let end = exits (i + 1) (k + l) b.0 q (omega arith) b.1 g in
          near-is i a.0 b.0 r a.1 b.1 ∙ clear-from i (i + 1) a.0 b.0 r (omega arith) a.1 b.1 (λ z m y w. h z m (omega (arith, start, y)) (omega (arith, end, w)))

  pub runs-told : (rs : List Reg) → AreTold t f v view rs (clear_along t f v view) (touched_places t f v view) (is_near t f v view)
  runs-told rs = record {
    run = λ k l p q r many e g h. clear-run k l p q r many e g (clear-to k (k + l) p q r (omega arith) e g h);
    clear = λ k l p q r many e g h. clear-from k (k + l) p q r (omega arith) e g (run-clear l k p q r many e g h);
  }
