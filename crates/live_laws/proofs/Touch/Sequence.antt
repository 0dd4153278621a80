-- Instructions in layout order, by a number that rises.
use Rattle.std.proofs.Common.{◌≡◌, ◌<◌, ℕ, Bool, true, false, cond, eqb, List, [], ◌∷◌, ◌++◌, map, filter, flat_map, refl, sym, ap, ◌∙◌, subst, eqb-true, eq-eqb, arith}
use Rattle.std.specs.Prelude.{nat_eq}
use Rattle.std.specs.List.{AllByRecursion, IsDistinct}
use Rattle.std.specs.List.Sorted.{IsStrictlySortedBy}
use Rattle.std.specs.Ordering.{nat_cmp}
use Rattle.std.specs.declared.cmp.Ordering.TheVariants.{Less}
use Rattle.std.specs.Map.{keys_of}
use Rattle.std.proofs.lemmas.Cmp.{ranked}
use Rattle.std.proofs.lemmas.Map.Keys.{sorted_head, sorted_tail, IsDistinct-head, IsDistinct-tail}
use Rattle.slot_index.specs.Order.{ids, number_of, IsNumbered}
use Rattle.slot_index.proofs.Present.{number_head, number_tail}
use Rattle.meaning.specs.Live.{Among as Member, here as first, there as later}
use Rattle.mir_func.specs.declared.func.Block.{Block}
use Rattle.mir_func.specs.declared.func.Instr.{Instr}
use Rattle.instr_effects.proofs.Members.{member-none, member-elim, filter-of, map-of, map-in}
use Rattle.mir_meaning.specs.Paths.{has}
use Rattle.live_lanes.specs.Ordered.{ids_of, all_ids}
use Rattle.live_lanes.specs.Touching.{layout_key}

-- the key of each is below those of all behind it
abbrev pub Rise : (ℕ → ℕ) → List ℕ → Type 0
Rise key [] = Unit {0}
Rise key (x ∷ xs) = ((y : ℕ) → Member y xs → key x < key y) × Rise key xs

less-of : (key : ℕ → ℕ) (low : ℕ) (xs : List ℕ) → AllByRecursion (λ y. nat_cmp low y ≡ Less) (map key xs) → (y : ℕ) → Member y xs → low < key y
less-of key low [] h y m = absurd (member-none y m)
less-of key low (x ∷ xs) h y m = member-elim y x xs (λ e. let l = ranked low (key x) Less (sym h.0) in let g : key y ≡ key x = ap key e in omega (arith, l, g)) (λ k. less-of key low xs h.1 y k) m

pub rise-of : (key : ℕ → ℕ) (xs : List ℕ) → IsStrictlySortedBy nat_cmp (map key xs) → Rise key xs
rise-of key [] h = tt
rise-of key (x ∷ xs) h = (less-of key (key x) xs (sorted_head nat_cmp (key x) (map key xs) h), rise-of key xs (sorted_tail nat_cmp (key x) (map key xs) h))

-- members by the test

pub has-member : (x : ℕ) (xs : List ℕ) → has x xs ≡ true → Member x xs
has-member x [] e = absurd (cc)
has-member x (y ∷ xs) e = go (nat_eq y x) refl e (has-member x xs)
  where
    go : (b : Bool) → nat_eq y x ≡ b → cond b true (has x xs) ≡ true → (has x xs ≡ true → Member x xs) → Member x (y ∷ xs)
    go true f g ih = subst (λ z. Member z (y ∷ xs)) (eqb-true y x f) first
    go false f g ih = later (ih g)

pub member-has : (x : ℕ) (xs : List ℕ) → Member x xs → has x xs ≡ true
member-has x [] m = absurd (member-none x m)
member-has x (y ∷ xs) m = member-elim x y xs (λ e. ap (λ b. cond b true (has x xs)) (eq-eqb y x (sym e))) (λ k. go (nat_eq y x) (member-has x xs k)) m
  where
    go : (b : Bool) → has x xs ≡ true → cond b true (has x xs) ≡ true
    go true e = refl
    go false e = e

-- two lists along which the key rises, and that have the same members, are one

module _ (key : ℕ → ℕ) where
  heads : (x y : ℕ) (xs ys : List ℕ) → Rise key (x ∷ xs) → Rise key (y ∷ ys) → Member x (y ∷ ys) → Member y (x ∷ xs) → x ≡ y
  heads x y xs ys r s m n = member-elim x y ys (λ e. e) (λ j. member-elim y x xs (λ e. sym e) (λ k. absurd (let a = s.0 x j in let b = r.0 y k in omega (arith, a, b))) n) m

  tails : (x y : ℕ) (xs ys : List ℕ) → x ≡ y → Rise key (x ∷ xs) → ((z : ℕ) → Member z (x ∷ xs) → Member z (y ∷ ys)) → (z : ℕ) → Member z xs → Member z ys
  tails x y xs ys e r h z m = member-elim z y ys (λ g. absurd (let l = r.0 z m in let q : key z ≡ key x = ap key (g ∙ sym e) in omega (arith, l, q))) (λ k. k) (h z (later m))

  pub same-lists : (xs ys : List ℕ) → Rise key xs → Rise key ys → ((x : ℕ) → Member x xs → Member x ys) → ((x : ℕ) → Member x ys → Member x xs) → xs ≡ ys
  same-lists [] [] r s h g = refl
  same-lists [] (y ∷ ys) r s h g = absurd (member-none y (g y first))
  same-lists (x ∷ xs) [] r s h g = absurd (member-none x (h x first))
  same-lists (x ∷ xs) (y ∷ ys) r s h g =
      let e = heads x y xs ys r s (h x first) (g y first) in
      ap (λ z. z ∷ xs) e ∙ ap (λ zs. y ∷ zs) (same-lists xs ys r.1 s.1 (tails x y xs ys e r h) (tails y x ys xs (sym e) s g))

  -- some of a list
  pub rise-some : (p : Instr → Bool) (is : List Instr) → Rise key (map (λ i. i.id) is) → Rise key (map (λ i. i.id) (filter p is))
  rise-some p [] r = tt
  rise-some p (i ∷ is) r = go (p i) (rise-some p is r.1)
    where
      within : (y : ℕ) → Member y (map (λ i. i.id) (filter p is)) → Member y (map (λ i. i.id) is)
      within y m =
          let z = map-of (λ (i : Instr). i.id) y (filter p is) m in
          subst (λ n. Member n (map (λ i. i.id) is)) (sym z.2) (map-in (λ (i : Instr). i.id) z.0 is (filter-of p z.0 is z.1).0)

      go : (b : Bool) → Rise key (map (λ i. i.id) (filter p is)) → Rise key (map (λ i. i.id) (cond b (i ∷ filter p is) (filter p is)))
      go true ih = ((λ y m. r.0 y (within y m)), ih)
      go false ih = ih

-- another key that agrees
rise-as : (f g : ℕ → ℕ) (xs : List ℕ) → ((x : ℕ) → Member x xs → f x ≡ g x) → Rise f xs → Rise g xs
rise-as f g [] h r = tt
rise-as f g (x ∷ xs) h r = ((λ y m. let l = r.0 y m in let a = h x first in let b = h y (later m) in omega (arith, l, a, b)), rise-as f g xs (λ y m. h y (later m)) r.1)

-- the numbers of ids rise along the list

differs : (x : ℕ) (xs : List ℕ) → AllByRecursion (λ y. eqb x y ≡ false) xs → (y : ℕ) → Member y xs → eqb x y ≡ false
differs x [] h y m = absurd (member-none y m)
differs x (z ∷ xs) h y m = member-elim y z xs (λ e. ap (eqb x) e ∙ h.0) (λ k. differs x xs h.1 y k) m

number-in : (low : ℕ) (slots : List (ℕ × ℕ)) → IsDistinct eqb (ids slots) → AllByRecursion (λ y. nat_cmp low y ≡ Less) (keys_of slots) → (y : ℕ) → Member y (ids slots) → low < number_of slots y
number-in low [] d h y m = absurd (member-none y m)
number-in low (s ∷ slots) d h y m =
    member-elim y s.1 (ids slots)
    (λ e. let l = ranked low s.0 Less (sym h.0) in let g = number_head s slots y (eq-eqb s.1 y (sym e)) in omega (arith, l, g))
    (λ k. let l = number-in low slots (IsDistinct-tail eqb s.1 (ids slots) d) h.1 y k in let g = number_tail s slots y (differs s.1 (ids slots) (IsDistinct-head eqb s.1 (ids slots) d) y k) in omega (arith, l, g)) m

numbers-rise : (slots : List (ℕ × ℕ)) → IsDistinct eqb (ids slots) → IsStrictlySortedBy nat_cmp (keys_of slots) → Rise (number_of slots) (ids slots)
numbers-rise [] d r = tt
numbers-rise (s ∷ slots) d r =
    let apart = differs s.1 (ids slots) (IsDistinct-head eqb s.1 (ids slots) d) in
    let more = IsDistinct-tail eqb s.1 (ids slots) d in (
      (λ y m. let l = number-in s.0 slots more (sorted_head nat_cmp s.0 (keys_of slots) r) y m in let g = number_tail s slots y (apart y m) in let h = number_head s slots s.1 (eq-eqb s.1 s.1 refl) in omega (arith, l, g, h)),
      rise-as (number_of slots) (number_of (s ∷ slots)) (ids slots) (λ y m. sym (number_tail s slots y (apart y m))) (numbers-rise slots more (sorted_tail nat_cmp s.0 (keys_of slots) r)),
    )

keyed : (slots : List (ℕ × ℕ)) (xs : List ℕ) → ((x : ℕ) → Member x xs → x < 4294967296) → Rise (number_of slots) xs → Rise (layout_key slots) xs
keyed slots [] h r = tt
keyed slots (x ∷ xs) h r = ((λ y m. let l = r.0 y m in let s = h x first in omega (arith, l, s)), keyed slots xs (λ y m. h y (later m)) r.1)

-- the layout's ids, where they are numbered
pub layout-rises : (slots : List (ℕ × ℕ)) → IsNumbered slots → ((x : ℕ) → Member x (ids slots) → x < 4294967296) → Rise (layout_key slots) (ids slots)
layout-rises slots n h = keyed slots (ids slots) h (numbers-rise slots n.distinct n.rising)

-- all ids are those of all instructions
pub ids-of-all : (bs : List Block) → all_ids bs ≡ map (λ i. i.id) (flat_map (λ b. b.instrs) bs)
ids-of-all [] = refl
ids-of-all (b ∷ bs) = ap (λ xs. ids_of b.instrs ++ xs) (ids-of-all bs) ∙ sym (both b.instrs (flat_map (λ c. c.instrs) bs))
  where
    both : (xs ys : List Instr) → map (λ i. i.id) (xs ++ ys) ≡ map (λ i. i.id) xs ++ map (λ i. i.id) ys
    both [] ys = refl
    both (x ∷ xs) ys = ap (λ zs. x.id ∷ zs) (both xs ys)
