-- How many points of a block lie before a rank, and how many of them pass a test.
use Rattle.std.proofs.Common.{◌≡◌, ◌<◌, ◌≤◌, ℕ, zero, suc, ◌+◌, ◌-◌, ◌*◌, Bool, true, false, cond, ◌&&◌, leb, ltb, length, List, [], ◌∷◌, map, refl, sym, ap, ◌∙◌, arith, get_or}
use Rattle.std.specs.Prelude.{nat_lt, min}
use Rattle.std.specs.List.Sorted.{IsPartitionedBy}
use Rattle.std.proofs.lemmas.Bool.{ltb-true, ltb-false, lt-ltb}
use Rattle.slot_index.specs.Order.{number_of}
use Rattle.mir_func.specs.declared.func.Instr.{Instr}
use Rattle.live_lanes.specs.Table.{Numbers, entry_rank, exit_rank, leading}
use Rattle.live_lanes.specs.Ordered.{ids_of, AreRising}
use Rattle.live_lanes.specs.Held.{one, inside, passing}
use Rattle.live_lanes.proofs.Cells.{both-left}

lt-false : (a b : ℕ) → b ≤ a → nat_lt a b ≡ false
lt-false a b h = go (nat_lt a b) refl
  where
    go : (u : Bool) → nat_lt a b ≡ u → nat_lt a b ≡ false
    go true e = let z = ltb-true a b e in absurd (omega arith)
    go false e = e

-- tests that come to the same count the same
one-le : (p q : Bool) → (p ≡ true → q ≡ true) → one p ≤ one q
one-le false q h = omega arith
one-le true q h = let e : one q ≡ 1 = ap one (h refl) in omega arith

module _ (slots : Numbers) where
  rising-above : (n : ℕ) (is : List Instr) (i : ℕ) (d : Instr) → AreRising slots n (ids_of is) → i < length is → n < number_of slots (get_or is i d).id
  rising-above n [] i d r h = absurd (omega arith)
  rising-above n (x ∷ is) zero d r h = r.0
  rising-above n (x ∷ is) (suc i) d r h = let ih = rising-above (number_of slots x.id) is i d r.2 (omega arith) in let low = r.0 in omega arith

  rising-le : (n : ℕ) (is : List Instr) (i j : ℕ) (d : Instr) → AreRising slots n (ids_of is) → i ≤ j → j < length is → number_of slots (get_or is i d).id ≤ number_of slots (get_or is j d).id
  rising-le n [] i j d r w h = absurd (omega arith)
  rising-le n (x ∷ is) zero zero d r w h = omega arith
  rising-le n (x ∷ is) zero (suc j) d r w h = let z = rising-above (number_of slots x.id) is j d r.2 (omega arith) in omega arith
  rising-le n (x ∷ is) (suc i) zero d r w h = absurd (omega arith)
  rising-le n (x ∷ is) (suc i) (suc j) d r w h = rising-le (number_of slots x.id) is i j d r.2 (omega arith) (omega arith)

  pub entries-parted : (at : ℕ) (is : List Instr) → AreRising slots 0 (ids_of is) → IsPartitionedBy (λ i. nat_lt (entry_rank slots i.id) at) is
  entries-parted at is r i j d w h e =
      let x = ltb-true (entry_rank slots (get_or is j d).id) at e in
      let y = rising-le 0 is i j d r w h in
      lt-ltb (entry_rank slots (get_or is i d).id) at (omega arith)

  -- how many instructions in a row have their entry before a rank, and how many their exit
  abbrev entries : ℕ → List Instr → ℕ
  entries at is = leading (λ i. nat_lt (entry_rank slots i.id) at) is

  abbrev exits : ℕ → List Instr → ℕ
  exits at is = leading (λ i. nat_lt (exit_rank slots i.id) at) is

  abbrev below : ℕ → List Instr → ℕ
  below at is = inside slots (λ x. nat_lt x at) (ids_of is)

  none-below : (at n : ℕ) (is : List Instr) → AreRising slots n (ids_of is) → at ≤ n * 2 + 2 → below at is ≡ 0
  none-below at n [] r h = refl
  none-below at n (i ∷ is) r h =
      let low = r.0 in
      let ih = none-below at (number_of slots i.id) is r.2 (omega arith) in
      let a : one (nat_lt (entry_rank slots i.id) at) ≡ 0 = ap one (lt-false (entry_rank slots i.id) at (omega arith)) in
      let b : one (nat_lt (exit_rank slots i.id) at) ≡ 0 = ap one (lt-false (exit_rank slots i.id) at (omega arith)) in
      omega (arith, ih, a, b)

  all-below : (at n : ℕ) (is : List Instr) → AreRising slots n (ids_of is) → 36893488147419103232 ≤ at → below at is ≡ length is * 2
  all-below at n [] r h = refl
  all-below at n (i ∷ is) r h =
      let fits = r.1 in
      let ih = all-below at (number_of slots i.id) is r.2 h in
      let a : one (nat_lt (entry_rank slots i.id) at) ≡ 1 = ap one (lt-ltb (entry_rank slots i.id) at (omega arith)) in
      let b : one (nat_lt (exit_rank slots i.id) at) ≡ 1 = ap one (lt-ltb (exit_rank slots i.id) at (omega arith)) in
      omega (arith, ih, a, b)

  -- all points lie before the end of a block
  pub counted-all : (at : ℕ) (is : List Instr) → AreRising slots 0 (ids_of is) → 36893488147419103232 ≤ at → length is * 2 + 1 ≡ passing slots (λ x. nat_lt x at) (ids_of is)
  counted-all at is r h =
      let first : one (nat_lt 0 at) ≡ 1 = ap one (lt-ltb 0 at (omega arith)) in
      omega (arith, all-below at 0 is r h, first)

  no-entries : (at n : ℕ) (is : List Instr) → AreRising slots n (ids_of is) → at ≤ n * 2 + 2 → entries at is ≡ 0
  no-entries at n [] r h = refl
  no-entries at n (i ∷ is) r h = let low = r.0 in ap (λ b. cond b (suc (entries at is)) 0) (lt-false (entry_rank slots i.id) at (omega arith))

  counted : (at n : ℕ) (is : List Instr) → AreRising slots n (ids_of is) → entries at is + exits at is ≡ below at is
  counted at n [] r = refl
  counted at n (i ∷ is) r = go (nat_lt (exit_rank slots i.id) at) refl (nat_lt (entry_rank slots i.id) at) refl (counted at (number_of slots i.id) is r.2) (no-entries at (number_of slots i.id) is r.2) (none-below at (number_of slots i.id) is r.2)
    where
      entries-cons : (u : Bool) → nat_lt (entry_rank slots i.id) at ≡ u → entries at (i ∷ is) ≡ cond u (suc (entries at is)) 0
      entries-cons u e = ap (λ b. cond b (suc (entries at is)) 0) e

      exits-cons : (u : Bool) → nat_lt (exit_rank slots i.id) at ≡ u → exits at (i ∷ is) ≡ cond u (suc (exits at is)) 0
      exits-cons u e = ap (λ b. cond b (suc (exits at is)) 0) e

      below-cons : (u w : Bool) → nat_lt (entry_rank slots i.id) at ≡ u → nat_lt (exit_rank slots i.id) at ≡ w → below at (i ∷ is) ≡ one u + (one w + below at is)
      below-cons u w e f = ap (λ b. one b + (one (nat_lt (exit_rank slots i.id) at) + below at is)) e ∙ ap (λ b. one u + (one b + below at is)) f

      go : (w : Bool) → nat_lt (exit_rank slots i.id) at ≡ w → (u : Bool) → nat_lt (entry_rank slots i.id) at ≡ u → entries at is + exits at is ≡ below at is → (at ≤ number_of slots i.id * 2 + 2 → entries at is ≡ 0) → (at ≤ number_of slots i.id * 2 + 2 → below at is ≡ 0) → entries at (i ∷ is) + exits at (i ∷ is) ≡ below at (i ∷ is)
      go true f true e ih none past = omega (arith, ih, entries-cons true e, exits-cons true f, below-cons true true e f)
      go true f false e ih none past = let x = ltb-true (exit_rank slots i.id) at f in let y = ltb-false (entry_rank slots i.id) at e in absurd (omega arith)
      go false f true e ih none past =
          let x = ltb-false (exit_rank slots i.id) at f in
          let a = none (omega arith) in
          let b = past (omega arith) in
          omega (arith, a, b, entries-cons true e, exits-cons false f, below-cons true false e f)
      go false f false e ih none past =
          let x = ltb-false (exit_rank slots i.id) at f in
          let b = past (omega arith) in
          omega (arith, b, entries-cons false e, exits-cons false f, below-cons false false e f)

  -- without an entry before a rank there is no exit before it
  pub exits-none : (at : ℕ) (is : List Instr) → 0 ≡ entries at is → 0 ≡ exits at is
  exits-none at [] e = refl
  exits-none at (i ∷ is) e = go (nat_lt (entry_rank slots i.id) at) refl
    where
      go : (u : Bool) → nat_lt (entry_rank slots i.id) at ≡ u → 0 ≡ exits at (i ∷ is)
      go true f = absurd (let z : entries at (i ∷ is) ≡ suc (entries at is) = ap (λ b. cond b (suc (entries at is)) 0) f in omega (arith, z, e))
      go false f =
          let x = ltb-false (entry_rank slots i.id) at f in
          sym (ap (λ b. cond b (suc (exits at is)) 0) (lt-false (exit_rank slots i.id) at (omega arith)))

  -- where more than one entry lies before a rank, the first exit does, and the others are counted without it
  exits-pop : (at n k : ℕ) (i : Instr) (is : List Instr) → AreRising slots n (ids_of (i ∷ is)) → suc (suc k) ≡ entries at (i ∷ is) → (suc k ≡ entries at is) × (exits at (i ∷ is) ≡ suc (exits at is))
  exits-pop at n k i is r e = go (nat_lt (entry_rank slots i.id) at) refl
    where
      go : (u : Bool) → nat_lt (entry_rank slots i.id) at ≡ u → (suc k ≡ entries at is) × (exits at (i ∷ is) ≡ suc (exits at is))
      go false f = absurd (let z : entries at (i ∷ is) ≡ 0 = ap (λ b. cond b (suc (entries at is)) 0) f in omega (arith, z, e))
      go true f =
          let z : entries at (i ∷ is) ≡ suc (entries at is) = ap (λ b. cond b (suc (entries at is)) 0) f in
          let more : suc k ≡ entries at is = omega (arith, z, e) in
          (more, leave more (nat_lt (exit_rank slots i.id) at) refl)
        where
          leave : suc k ≡ entries at is → (w : Bool) → nat_lt (exit_rank slots i.id) at ≡ w → exits at (i ∷ is) ≡ suc (exits at is)
          leave more true g = ap (λ b. cond b (suc (exits at is)) 0) g
          leave more false g =
              let x = ltb-false (exit_rank slots i.id) at g in
              let none = no-entries at (number_of slots i.id) is r.2 (omega arith) in
              absurd (omega (arith, none, more))

  -- the last of these exits lies before the rank, and so do all
  pub exits-all : (at n k : ℕ) (is : List Instr) (d : Instr) → AreRising slots n (ids_of is) → suc k ≡ entries at is → exit_rank slots (get_or is k d).id < at → suc k ≡ exits at is
  exits-all at n k [] d r e h = absurd (omega (arith, e))
  exits-all at n zero (i ∷ is) d r e h =
      let enters : nat_lt (entry_rank slots i.id) at ≡ true = lt-ltb (entry_rank slots i.id) at (omega arith) in
      let leaves : exits at (i ∷ is) ≡ suc (exits at is) = ap (λ b. cond b (suc (exits at is)) 0) (lt-ltb (exit_rank slots i.id) at h) in
      let z : entries at (i ∷ is) ≡ suc (entries at is) = ap (λ b. cond b (suc (entries at is)) 0) enters in
      let none = exits-none at is (omega (arith, z, e)) in
      omega (arith, leaves, none)
  exits-all at n (suc k) (i ∷ is) d r e h =
      let pop = exits-pop at n k i is r e in
      let ih = exits-all at (number_of slots i.id) k is d r.2 pop.0 h in
      omega (arith, pop.1, ih)

  -- it doesn't, and all others do
  pub exits-less : (at n k : ℕ) (is : List Instr) (d : Instr) → AreRising slots n (ids_of is) → suc k ≡ entries at is → at ≤ exit_rank slots (get_or is k d).id → k ≡ exits at is
  exits-less at n k [] d r e h = absurd (omega (arith, e))
  exits-less at n zero (i ∷ is) d r e h = sym (ap (λ b. cond b (suc (exits at is)) 0) (lt-false (exit_rank slots i.id) at h))
  exits-less at n (suc k) (i ∷ is) d r e h =
      let pop = exits-pop at n k i is r e in
      let ih = exits-less at (number_of slots i.id) k is d r.2 pop.0 h in
      omega (arith, pop.1, ih)

  -- the points before a rank
  pub counted-below : (at : ℕ) (is : List Instr) → AreRising slots 0 (ids_of is) → (at ≡ 0 → ⊥) → entries at is + exits at is + 1 ≡ passing slots (λ x. nat_lt x at) (ids_of is)
  counted-below at is r ne =
      let first : one (nat_lt 0 at) ≡ 1 = ap one (lt-ltb 0 at (omega (arith, ne))) in
      omega (arith, counted at 0 is r, first)

  pub counted-none : (is : List Instr) (at : ℕ) → AreRising slots 0 (ids_of is) → at ≡ 0 → 0 ≡ passing slots (λ x. nat_lt x at) (ids_of is)
  counted-none is at r e =
      let first : one (nat_lt 0 at) ≡ 0 = ap one (lt-false 0 at (omega arith)) in
      omega (arith, none-below at 0 is r (omega arith), first)

  -- counting by tests

  inside-le : (p q : ℕ → Bool) → ((x : ℕ) → p x ≡ true → q x ≡ true) → (ids : List ℕ) → inside slots p ids ≤ inside slots q ids
  inside-le p q h [] = omega arith
  inside-le p q h (id ∷ ids) =
      let a = one-le (p (entry_rank slots id)) (q (entry_rank slots id)) (h (entry_rank slots id)) in
      let b = one-le (p (exit_rank slots id)) (q (exit_rank slots id)) (h (exit_rank slots id)) in
      let c = inside-le p q h ids in
      omega (arith, a, b, c)

  pub passing-le : (p q : ℕ → Bool) → ((x : ℕ) → p x ≡ true → q x ≡ true) → (ids : List ℕ) → passing slots p ids ≤ passing slots q ids
  passing-le p q h ids = let a = one-le (p 0) (q 0) (h 0) in let b = inside-le p q h ids in omega (arith, a, b)

  inside-sum : (p q r s : ℕ → Bool) → ((x : ℕ) → one (p x) + one (q x) ≡ one (r x) + one (s x)) → (ids : List ℕ) → inside slots p ids + inside slots q ids ≡ inside slots r ids + inside slots s ids
  inside-sum p q r s h [] = refl
  inside-sum p q r s h (id ∷ ids) = omega (arith, h (entry_rank slots id), h (exit_rank slots id), inside-sum p q r s h ids)

  pub passing-sum : (p q r s : ℕ → Bool) → ((x : ℕ) → one (p x) + one (q x) ≡ one (r x) + one (s x)) → (ids : List ℕ) → passing slots p ids + passing slots q ids ≡ passing slots r ids + passing slots s ids
  passing-sum p q r s h ids = omega (arith, h 0, inside-sum p q r s h ids)

  -- with no point from which on the test differs, all points count
  inside-all : (p q : ℕ → Bool) (n : ℕ) (ids : List ℕ) → AreRising slots n ids → ((x : ℕ) → x < 36893488147419103232 → p x ≡ q x) → inside slots p ids ≡ inside slots q ids
  inside-all p q n [] r h = refl
  inside-all p q n (id ∷ ids) r h =
      let small = r.1 in
      let a : one (p (entry_rank slots id)) ≡ one (q (entry_rank slots id)) = ap one (h (entry_rank slots id) (omega arith)) in
      let b : one (p (exit_rank slots id)) ≡ one (q (exit_rank slots id)) = ap one (h (exit_rank slots id) (omega arith)) in
      omega (arith, a, b, inside-all p q (number_of slots id) ids r.2 h)

  pub passing-all : (p q : ℕ → Bool) (ids : List ℕ) → AreRising slots 0 ids → ((x : ℕ) → x < 36893488147419103232 → p x ≡ q x) → passing slots p ids ≡ passing slots q ids
  passing-all p q ids r h =
      let a : one (p 0) ≡ one (q 0) = ap one (h 0 (omega arith)) in
      omega (arith, a, inside-all p q 0 ids r h)

  inside-zero : (p : ℕ → Bool) → ((x : ℕ) → p x ≡ false) → (ids : List ℕ) → inside slots p ids ≡ 0
  inside-zero p h [] = refl
  inside-zero p h (id ∷ ids) =
      let a : one (p (entry_rank slots id)) ≡ 0 = ap one (h (entry_rank slots id)) in
      let b : one (p (exit_rank slots id)) ≡ 0 = ap one (h (exit_rank slots id)) in
      omega (arith, a, b, inside-zero p h ids)

  pub passing-zero : (p : ℕ → Bool) → ((x : ℕ) → p x ≡ false) → (ids : List ℕ) → passing slots p ids ≡ 0
  passing-zero p h ids = let a : one (p 0) ≡ 0 = ap one (h 0) in omega (arith, a, inside-zero p h ids)

-- one point before or behind both bounds, or between them

before-both : (test : ℕ → Bool) (at end : ℕ) → at ≤ end → ((x : ℕ) → at ≤ x → x < end → test x ≡ true) → (x : ℕ) → one (nat_lt x end && test x) + one (nat_lt x at) ≡ one (nat_lt x at && test x) + one (nat_lt x end)
before-both test at end le same x = go (nat_lt x at) refl (nat_lt x end) refl
  where
    go : (u : Bool) → nat_lt x at ≡ u → (w : Bool) → nat_lt x end ≡ w → one (nat_lt x end && test x) + one (nat_lt x at) ≡ one (nat_lt x at && test x) + one (nat_lt x end)
    go u e w f = ap (λ b. one (b && test x) + one (nat_lt x at)) f ∙ ap (λ b. one (w && test x) + one b) e ∙ both u w e f ∙ sym (ap (λ b. one (b && test x) + one (nat_lt x end)) e ∙ ap (λ b. one (u && test x) + one b) f)
      where
        both : (u w : Bool) → nat_lt x at ≡ u → nat_lt x end ≡ w → one (w && test x) + one u ≡ one (u && test x) + one w
        both true true e f = refl
        both true false e f = let a = ltb-true x at e in let b = ltb-false x end f in absurd (omega arith)
        both false true e f = let a = ltb-false x at e in let b = ltb-true x end f in let c : one (test x) ≡ 1 = ap one (same x a b) in omega (arith, c)
        both false false e f = refl

-- where the test passes from one rank on up to before another one, all points between count
pub held-more : (slots : Numbers) (test : ℕ → Bool) (at end : ℕ) → at ≤ end → ((x : ℕ) → at ≤ x → x < end → test x ≡ true) → (ids : List ℕ) → passing slots (λ x. nat_lt x end && test x) ids + passing slots (λ x. nat_lt x at) ids ≡ passing slots (λ x. nat_lt x at && test x) ids + passing slots (λ x. nat_lt x end) ids
held-more slots test at end le same ids = passing-sum slots (λ x. nat_lt x end && test x) (λ x. nat_lt x at) (λ x. nat_lt x at && test x) (λ x. nat_lt x end) (before-both test at end le same) ids

before-none : (test : ℕ → Bool) (at end : ℕ) → at ≤ end → ((x : ℕ) → at ≤ x → x < end → test x ≡ false) → (x : ℕ) → (nat_lt x end && test x) ≡ (nat_lt x at && test x)
before-none test at end le same x = go (nat_lt x at) refl (nat_lt x end) refl
  where
    both : (u w : Bool) → nat_lt x at ≡ u → nat_lt x end ≡ w → (w && test x) ≡ (u && test x)
    both true true e f = refl
    both true false e f = let a = ltb-true x at e in let b = ltb-false x end f in absurd (omega arith)
    both false true e f = same x (ltb-false x at e) (ltb-true x end f)
    both false false e f = refl

    go : (u : Bool) → nat_lt x at ≡ u → (w : Bool) → nat_lt x end ≡ w → (nat_lt x end && test x) ≡ (nat_lt x at && test x)
    go u e w f = ap (λ b. b && test x) f ∙ both u w e f ∙ sym (ap (λ b. b && test x) e)

-- where it doesn't, none of them does
pub held-none : (slots : Numbers) (test : ℕ → Bool) (at end : ℕ) → at ≤ end → ((x : ℕ) → at ≤ x → x < end → test x ≡ false) → (ids : List ℕ) → passing slots (λ x. nat_lt x end && test x) ids ≡ passing slots (λ x. nat_lt x at && test x) ids
held-none slots test at end le same ids =
    let h = before-none test at end le same in
    let z = passing-sum slots (λ x. nat_lt x end && test x) (λ x. false) (λ x. nat_lt x at && test x) (λ x. false) (λ x. ap (λ b. one b + 0) (h x)) ids in
    omega (arith, z)

abbrev limit : ℕ
limit = 18446744073709551615

module _ (slots : Numbers) (test : ℕ → Bool) (ids : List ℕ) where
  abbrev so_far : ℕ → ℕ
  so_far at = passing slots (λ x. nat_lt x at && test x) ids

  abbrev before : ℕ → ℕ
  before at = passing slots (λ x. nat_lt x at) ids

  -- before the block's start nothing counts
  pub count-start : 0 ≡ so_far 0
  count-start = sym (passing-zero slots (λ x. nat_lt x 0 && test x) (λ x. ap (λ b. b && test x) (lt-false x 0 (omega arith))) ids)

  pub count-held : (at end count more result : ℕ) → at < end → ((x : ℕ) → at ≤ x → x < end → test x ≡ true) → count ≡ so_far at → more ≡ before end - before at → before end < 18446744073709551616 → result ≡ min (count + more) limit → result ≡ so_far end
  count-held at end count more result lt same e f few g =
      let a = held-more slots test at end (omega arith) same ids in
      let b = passing-le slots (λ x. nat_lt x at) (λ x. nat_lt x end) (λ x h. lt-ltb x end (let z = ltb-true x at h in omega arith)) ids in
      let c = passing-le slots (λ x. nat_lt x end && test x) (λ x. nat_lt x end) (λ x h. both-left (nat_lt x end) (test x) h) ids in
      omega (arith, a, b, c, e, f, few, g)

  pub count-none : (at end count : ℕ) → at < end → ((x : ℕ) → at ≤ x → x < end → test x ≡ false) → count ≡ so_far at → count ≡ so_far end
  count-none at end count lt same e = e ∙ sym (held-none slots test at end (omega arith) same ids)

  -- behind all points all of them are counted
  pub count-end : (at count : ℕ) → AreRising slots 0 ids → 340282366920938463463374607431768211455 ≤ at → count ≡ so_far at → count ≡ passing slots test ids
  count-end at count r le e = e ∙ passing-all slots (λ x. nat_lt x at && test x) test ids r (λ x small. ap (λ b. b && test x) (lt-ltb x at (omega arith)))
