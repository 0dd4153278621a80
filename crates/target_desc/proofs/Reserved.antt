-- The reserved units stand by number, and belong to registers all of whose units are reserved.
use Rattle.std.proofs.Common.{◌≡◌, ℕ, ◌<◌, ◌≤◌, ◌+◌, ◌-◌, List, [], ◌∷◌, ◌++◌, append_assoc, length, map, filter, Bool, true, false, refl, ap, ◌∙◌, arith, zero, suc}
use Rattle.std.specs.Prelude.{◌&&◌, ◌||◌, ◌==◌, nat_lt, slice_get}
use Rattle.std.specs.List.{list_all, list_any, range_with_len}
use Rattle.std.proofs.lemmas.Bool.{lt-ltb, ltb-true, eqb-true, eqb-false, eq-eqb}
use Rattle.target_base.specs.declared.types.Unit.{Unit as UnitNumber}
use Rattle.target_base.specs.declared.types.Reg.{Reg}
use Rattle.target_base.specs.declared.types.UnitDesc.{UnitDesc}
use Rattle.target_base.specs.declared.types.RegDesc.{RegDesc}
use Rattle.target_base.specs.Numbers.{unit_number}
use Rattle.target_base.specs.Storage.{is_among, reg_units, units_in}
use Rattle.target_base.specs.Rules.{is_reg_desc, is_rising, are_reserved}
use Rattle.target_base.proofs.Tests.{first_of_both, second_of_both}
use Rattle.target_desc.specs.Ending.{belongs, reserved_units}
use Rattle.target_desc.proofs.Grown.{both, all_kept, all_kept_where}
use Rattle.target_desc.proofs.SameWidths.{units_known}

or_right : (a b : Bool) → b ≡ true → (a || b) ≡ true
or_right true b h = refl
or_right false b h = h

either : (a b : Bool) → (a || b) ≡ true → a ≡ false → b ≡ true
either true b h e = absurd (cc)
either false b h e = h

module _ (p : UnitNumber → Bool) where
  abbrev picked : ℕ → ℕ → List UnitNumber
  picked a n = filter p (map unit_number (range_with_len a n))

  above_step : (a b n : ℕ) (t : Bool) → p (unit_number b) ≡ t → a < b → list_all (λ v. nat_lt a v.0) (picked (b + 1) n) ≡ true → list_all (λ v. nat_lt a v.0) (picked b (suc n)) ≡ true
  above_step a b n true e h rest = rw e (both _ _ (lt-ltb a b h) rest)
  above_step a b n false e h rest = rw e rest

  above : (a b n : ℕ) → a < b → list_all (λ v. nat_lt a v.0) (picked b n) ≡ true
  above a b zero h = refl
  above a b (suc n) h = above_step a b n (p (unit_number b)) refl h (above a (b + 1) n (omega arith))

  rising_step : (a n : ℕ) (t : Bool) → p (unit_number a) ≡ t → is_rising (picked (a + 1) n) ≡ true → is_rising (picked a (suc n)) ≡ true
  rising_step a n true e rest = rw e (both _ _ (above a (a + 1) n (omega arith)) rest)
  rising_step a n false e rest = rw e rest

  rising : (a n : ℕ) → is_rising (picked a n) ≡ true
  rising a zero = refl
  rising a (suc n) = rising_step a n (p (unit_number a)) refl (rising (a + 1) n)

  passes_step : (x : UnitNumber) (xs : List UnitNumber) (t : Bool) → p x ≡ t → list_all p (filter p xs) ≡ true → list_all p (filter p (x ∷ xs)) ≡ true
  passes_step x xs true e rest = rw e (both _ _ e rest)
  passes_step x xs false e rest = rw e rest

  passes_all : (xs : List UnitNumber) → list_all p (filter p xs) ≡ true
  passes_all [] = refl
  passes_all (x ∷ xs) = passes_step x xs (p x) refl (passes_all xs)

  later : (u : UnitNumber) (a n : ℕ) (t : Bool) → p (unit_number a) ≡ t → is_among (picked (a + 1) n) u ≡ true → is_among (picked a (suc n)) u ≡ true
  later u a n true e h = rw e (or_right _ _ h)
  later u a n false e h = rw e h

  here : (u : UnitNumber) (a n : ℕ) → a ≡ u.0 → p u ≡ true → is_among (picked a (suc n)) u ≡ true
  here u a n e h = let q : p (unit_number a) ≡ true = ap (λ k. p (unit_number k)) e ∙ h in let s = eq-eqb a u.0 e in rw (q, s) refl

  has_step : (u : UnitNumber) (a n : ℕ) (t : Bool) → (a == u.0) ≡ t → p u ≡ true → a ≤ u.0 → (a + 1 ≤ u.0 → is_among (picked (a + 1) n) u ≡ true) → is_among (picked a (suc n)) u ≡ true
  has_step u a n true e h lo rest = here u a n (eqb-true a u.0 e) h
  has_step u a n false e h lo rest = let apart = eqb-false a u.0 e in later u a n (p (unit_number a)) refl (rest (omega (arith, apart)))

  picked_has : (u : UnitNumber) (a n : ℕ) → p u ≡ true → a ≤ u.0 → u.0 < a + n → is_among (picked a n) u ≡ true
  picked_has u a zero h lo hi = absurd (omega arith)
  picked_has u a (suc n) h lo hi = has_step u a n (a == u.0) refl h lo (λ more. picked_has u (a + 1) n h more (omega arith))

-- a unit of a register that passes a test on its units
at_place : (q : List UnitNumber → Bool) (regs : List RegDesc) (k : ℕ) → k < length regs → q (units_in (slice_get regs k)) ≡ true → list_any (λ d. q d.units) regs ≡ true
at_place q [] k h e = absurd (omega arith)
at_place q (d ∷ ds) zero h e = rw e refl
at_place q (d ∷ ds) (suc k) h e = or_right _ _ (at_place q ds k (omega arith) e)

all_among : (us : List UnitNumber) → list_all (is_among us) us ≡ true
all_among [] = refl
all_among (u ∷ us) =
    both _ _ (let s = eq-eqb u.0 u.0 refl in rw s refl) (all_kept (is_among us) (is_among (u ∷ us)) us (λ v h. or_right _ _ h) (all_among us))

module _ (regs : List RegDesc) where
  each_own : (rs : List Reg) → list_all (λ r. list_all (belongs regs rs) (reg_units regs r)) rs ≡ true
  each_own [] = refl
  each_own (r ∷ rs) =
      both _ _
      (all_kept (is_among (reg_units regs r)) (belongs regs (r ∷ rs)) (reg_units regs r) (λ v h. rw h refl) (all_among (reg_units regs r)))
      (all_kept (λ q. list_all (belongs regs rs) (reg_units regs q)) (λ q. list_all (belongs regs (r ∷ rs)) (reg_units regs q)) rs (λ q. all_kept (belongs regs rs) (belongs regs (r ∷ rs)) (reg_units regs q) (λ v h. or_right _ _ h)) (each_own rs))

  whole_step : (us : List UnitNumber) (r : Reg) (u : UnitNumber) (t : Bool) → is_among (reg_units regs r) u ≡ t → nat_lt r.0 (length regs) ≡ true → list_all (is_among us) (reg_units regs r) ≡ true
      → (is_among (reg_units regs r) u ≡ false → list_any (λ d. is_among d.units u && list_all (is_among us) d.units) regs ≡ true) → list_any (λ d. is_among d.units u && list_all (is_among us) d.units) regs ≡ true
  whole_step us r u true e known good rest = at_place (λ ws. is_among ws u && list_all (is_among us) ws) regs r.0 (ltb-true r.0 (length regs) known) (both _ _ e good)
  whole_step us r u false e known good rest = rest e

  whole : (us : List UnitNumber) (rs : List Reg) (u : UnitNumber) → list_all (λ r. nat_lt r.0 (length regs)) rs ≡ true → list_all (λ r. list_all (is_among us) (reg_units regs r)) rs ≡ true → belongs regs rs u ≡ true
      → list_any (λ d. is_among d.units u && list_all (is_among us) d.units) regs ≡ true
  whole us [] u known good h = absurd (cc)
  whole us (r ∷ rs) u known good h = whole_step us r u (is_among (reg_units regs r) u) refl (first_of_both _ _ known) (first_of_both _ _ good) (λ e. whole us rs u (second_of_both _ _ known) (second_of_both _ _ good) (either _ _ h e))

pub reserved_kept : (version : ℕ) (units : List UnitDesc) (regs : List RegDesc) (rs : List Reg) → list_all (is_reg_desc version units) regs ≡ true → list_all (λ r. nat_lt r.0 (length regs)) rs ≡ true → are_reserved regs (reserved_units (length units) regs rs) ≡ true
reserved_kept version units regs rs sound known =
    let us = reserved_units (length units) regs rs in
    let n = length units in
    let good : list_all (λ r. list_all (is_among us) (reg_units regs r)) rs ≡ true =
    all_kept (λ r. list_all (belongs regs rs) (reg_units regs r)) (λ r. list_all (is_among us) (reg_units regs r)) rs
    (λ r. all_kept_where (λ v. nat_lt v.0 n) (belongs regs rs) (is_among us) (reg_units regs r) (λ v k b. picked_has (belongs regs rs) v 0 n b (omega arith) (let small = ltb-true v.0 n k in omega arith)) (units_known version units regs r.0 sound))
    (each_own regs rs) in
    both _ _ (rising (belongs regs rs) 0 n)
    (all_kept (belongs regs rs) (λ u. list_any (λ d. is_among d.units u && list_all (is_among us) d.units) regs) us (λ u. whole regs us rs u known good) (passes_all (belongs regs rs) (map unit_number (range_with_len 0 n))))

range_more : (u count : ℕ) → u < count → range_with_len u (count - u) ≡ u ∷ range_with_len (u + 1) (count - (u + 1))
range_more u count h = let e : count - u ≡ suc (count - (u + 1)) = omega arith in ap (range_with_len u) e

-- the loop over unit numbers, at one that belongs and at one that doesn't
pub unit_goes : (p : UnitNumber → Bool) (made new : List UnitNumber) (u count : ℕ) → u < count → true ≡ p (unit_number u) → new ≡ made ++ unit_number u ∷ [] → made ++ filter p (map unit_number (range_with_len u (count - u))) ≡ new ++ filter p (map unit_number (range_with_len (u + 1) (count - (u + 1))))
unit_goes p made new u count h e put = rw (put, range_more u count h, ← e) (simp append_assoc)

pub unit_skips : (p : UnitNumber → Bool) (made new : List UnitNumber) (u count : ℕ) → u < count → false ≡ p (unit_number u) → new ≡ made → made ++ filter p (map unit_number (range_with_len u (count - u))) ≡ new ++ filter p (map unit_number (range_with_len (u + 1) (count - (u + 1))))
unit_skips p made new u count h e same = rw (same, range_more u count h, ← e) refl
