-- The registers all of whose units are reserved hold just the reserved units.
use Rattle.std.proofs.Common.{◌≡◌, ℕ, ◌<◌, ◌≤◌, ◌+◌, List, [], ◌∷◌, length, map, filter, Bool, true, false, refl, ap, sym, ◌∙◌, arith, zero, suc}
use Rattle.std.specs.Prelude.{◌&&◌, ◌||◌, ◌==◌, nat_lt, slice_get}
use Rattle.std.specs.List.{list_all, list_any, range_with_len}
use Rattle.std.proofs.lemmas.Bool.{lt-ltb, ltb-true, eqb-true, eqb-false, ne_eqb}
use Rattle.target_base.specs.declared.types.Unit.{Unit as UnitNumber}
use Rattle.target_base.specs.declared.types.Reg.{Reg}
use Rattle.target_base.specs.declared.types.UnitDesc.{UnitDesc}
use Rattle.target_base.specs.declared.types.RegDesc.{RegDesc}
use Rattle.target_base.specs.Numbers.{unit_number, reg_number}
use Rattle.target_base.specs.Storage.{is_among, reg_units, units_in}
use Rattle.target_base.specs.Rules.{is_reg_desc, is_rising, are_reserved}
use Rattle.target_base.proofs.Tests.{first_of_both, second_of_both}
use Rattle.target_desc.specs.Ending.{belongs, reserved_units}
use Rattle.target_desc.specs.Printed.{reserved_regs}
use Rattle.target_desc.proofs.Grown.{both, all_kept}

-- equal tests
same_tests : (a b : Bool) → (a ≡ true → b ≡ true) → (b ≡ true → a ≡ true) → a ≡ b
same_tests true b f g = sym (f refl)
same_tests false true f g = g refl
same_tests false false f g = refl

any_either : (a b : Bool) (P : Type 0) → (a || b) ≡ true → (a ≡ true → P) → (b ≡ true → P) → P
any_either true b P h f g = f refl
any_either false b P h f g = g h

any_left : (a b : Bool) → a ≡ true → (a || b) ≡ true
any_left a b h = rw h refl

any_right : (a b : Bool) → b ≡ true → (a || b) ≡ true
any_right true b h = refl
any_right false b h = h

-- units with one number are one unit
passes_alike : (p : UnitNumber → Bool) (us : List UnitNumber) (u : UnitNumber) → list_all p us ≡ true → is_among us u ≡ true → p u ≡ true
passes_alike p [] u h e = absurd (cc)
passes_alike p (v ∷ vs) u h e =
    any_either (v.0 == u.0) (is_among vs u) (p u ≡ true) e
    (λ t. ap (λ n. p (unit_number n)) (sym (eqb-true v.0 u.0 t)) ∙ first_of_both _ _ h)
    (λ t. passes_alike p vs u (second_of_both _ _ h) t)

module _ (regs : List RegDesc) (reserved : List UnitNumber) where
  abbrev is_whole_reg : Reg → Bool
  is_whole_reg r = list_all (is_among reserved) (reg_units regs r)

  -- each register of the list that passes is whole
  from_whole : (rs : List Reg) (u : UnitNumber) → belongs regs (filter is_whole_reg rs) u ≡ true → is_among reserved u ≡ true
  from_whole [] u h = absurd (cc)
  from_whole (r ∷ rs) u h = by (is_whole_reg r) refl (from_whole rs u) h
    where
      by : (t : Bool) → is_whole_reg r ≡ t → (belongs regs (filter is_whole_reg rs) u ≡ true → is_among reserved u ≡ true) → belongs regs (filter is_whole_reg (r ∷ rs)) u ≡ true → is_among reserved u ≡ true
      by false e rest g = rest (let k : belongs regs (filter is_whole_reg rs) u ≡ true = rw e at g in k)
      by true e rest g =
          let k : (is_among (reg_units regs r) u || belongs regs (filter is_whole_reg rs) u) ≡ true = rw e at g in
          any_either _ _ (is_among reserved u ≡ true) k
          (λ t. passes_alike (is_among reserved) (reg_units regs r) u e t)
          rest

  to_whole : (rs : List Reg) (r : Reg) (u : UnitNumber) → list_any (λ q. q.0 == r.0) rs ≡ true → is_whole_reg r ≡ true → is_among (reg_units regs r) u ≡ true → belongs regs (filter is_whole_reg rs) u ≡ true
  to_whole [] r u there whole h = absurd (cc)
  to_whole (q ∷ rs) r u there whole h =
      any_either (q.0 == r.0) (list_any (λ x. x.0 == r.0) rs) (belongs regs (filter is_whole_reg (q ∷ rs)) u ≡ true) there
      (λ t. let same : q.0 ≡ r.0 = eqb-true q.0 r.0 t in
      let e : is_whole_reg q ≡ true = ap (λ n. is_whole_reg (reg_number n)) same ∙ whole in
      let g : is_among (reg_units regs q) u ≡ true = ap (λ n. is_among (reg_units regs (reg_number n)) u) same ∙ h in
      rw (e, g) refl)
      (λ t. skip (is_whole_reg q) refl (to_whole rs r u t whole h))
    where
      skip : (b : Bool) → is_whole_reg q ≡ b → belongs regs (filter is_whole_reg rs) u ≡ true → belongs regs (filter is_whole_reg (q ∷ rs)) u ≡ true
      skip true e g = rw e (any_right _ _ g)
      skip false e g = rw e g

  -- a register at a place of the list, whose units pass
  at_some : (p : List UnitNumber → Bool) (ds : List RegDesc) (P : Type 0) → list_any (λ d. p d.units) ds ≡ true → ((k : ℕ) → k < length ds → p (units_in (slice_get ds k)) ≡ true → P) → P
  at_some p [] P h f = absurd (cc)
  at_some p (d ∷ ds) P h f =
      any_either (p d.units) (list_any (λ x. p x.units) ds) P h
      (λ t. f zero (omega arith) t)
      (λ t. at_some p ds P t (λ k less e. f (suc k) (omega arith) e))

in_range : (a n k : ℕ) → a ≤ k → k < a + n → list_any (λ q. q.0 == k) (map reg_number (range_with_len a n)) ≡ true
in_range a zero k lo hi = absurd (omega arith)
in_range a (suc n) k lo hi = by (a == k) refl (λ more. in_range (a + 1) n k more (omega arith))
  where
    by : (t : Bool) → (a == k) ≡ t → (a + 1 ≤ k → list_any (λ q. q.0 == k) (map reg_number (range_with_len (a + 1) n)) ≡ true) → list_any (λ q. q.0 == k) (map reg_number (range_with_len a (suc n))) ≡ true
    by true e rest = any_left _ _ e
    by false e rest = let apart = eqb-false a k e in any_right _ _ (rest (omega (arith, apart)))

-- the units of the registers that are printed are just the reserved ones
units_same : (regs : List RegDesc) (reserved : List UnitNumber) → list_all (λ u. list_any (λ r. is_among r.units u && list_all (is_among reserved) r.units) regs) reserved ≡ true
    → (u : UnitNumber) → belongs regs (reserved_regs regs reserved) u ≡ is_among reserved u
units_same regs reserved h u =
    same_tests _ _
    (from_whole regs reserved (map reg_number (range_with_len 0 (length regs))) u)
    (λ e. at_some regs reserved (λ us. is_among us u && list_all (is_among reserved) us) regs (belongs regs (reserved_regs regs reserved) u ≡ true)
    (passes_alike (λ v. list_any (λ r. is_among r.units v && list_all (is_among reserved) r.units) regs) reserved u h e)
    (λ k less good. to_whole regs reserved (map reg_number (range_with_len 0 (length regs))) (reg_number k) u (in_range 0 (length regs) k (omega arith) (omega arith)) (second_of_both _ _ good) (first_of_both _ _ good)))

-- rising numbers are found again among all numbers
none_among : (a n : ℕ) → filter (is_among []) (map unit_number (range_with_len a n)) ≡ []
none_among a zero = refl
none_among a (suc n) = none_among (a + 1) n

past : (u : UnitNumber) (us : List UnitNumber) (a n : ℕ) → u.0 < a → filter (is_among (u ∷ us)) (map unit_number (range_with_len a n)) ≡ filter (is_among us) (map unit_number (range_with_len a n))
past u us a zero h = refl
past u us a (suc n) h =
    let apart : (u.0 == a) ≡ false = ne_eqb u.0 a (λ e. omega (arith, e)) in
    let rest = past u us (a + 1) n (omega arith) in
    by (is_among us (unit_number a)) refl apart rest
  where
    by : (t : Bool) → is_among us (unit_number a) ≡ t → (u.0 == a) ≡ false → filter (is_among (u ∷ us)) (map unit_number (range_with_len (a + 1) n)) ≡ filter (is_among us) (map unit_number (range_with_len (a + 1) n)) → filter (is_among (u ∷ us)) (map unit_number (range_with_len a (suc n))) ≡ filter (is_among us) (map unit_number (range_with_len a (suc n)))
    by true e apart rest = rw (apart, e) (ap (λ xs. unit_number a ∷ xs) rest)
    by false e apart rest = rw (apart, e) rest

none_below : (a : ℕ) (us : List UnitNumber) → list_all (λ v. nat_lt a v.0) us ≡ true → is_among us (unit_number a) ≡ false
none_below a [] h = refl
none_below a (v ∷ vs) h =
    let above = ltb-true a v.0 (first_of_both _ _ h) in
    let apart : (v.0 == a) ≡ false = ne_eqb v.0 a (λ e. omega (arith, e)) in
    rw apart (none_below a vs (second_of_both _ _ h))

module _ (u : UnitNumber) (us : List UnitNumber) (a n : ℕ) (r : is_rising (u ∷ us) ≡ true) (hi : list_all (λ v. nat_lt v.0 (a + suc n)) (u ∷ us) ≡ true) where
  abbrev Found : ℕ → ℕ → List UnitNumber → Type 0
  Found b m vs = list_all (λ v. nat_lt v.0 (b + m)) vs ≡ true → list_all (λ v. nat_lt b (v.0 + 1)) vs ≡ true → filter (is_among vs) (map unit_number (range_with_len b m)) ≡ vs

  rest_above : (m : ℕ) (vs : List UnitNumber) → m ≤ u.0 + 1 → list_all (λ v. nat_lt u.0 v.0) vs ≡ true → list_all (λ v. nat_lt m (v.0 + 1)) vs ≡ true
  rest_above m vs less h = all_kept (λ v. nat_lt u.0 v.0) (λ v. nat_lt m (v.0 + 1)) vs (λ v k. let x = ltb-true u.0 v.0 k in lt-ltb m (v.0 + 1) (omega arith)) h

  below_again : (vs : List UnitNumber) → list_all (λ v. nat_lt v.0 (a + suc n)) vs ≡ true → list_all (λ v. nat_lt v.0 (a + 1 + n)) vs ≡ true
  below_again vs h = all_kept (λ v. nat_lt v.0 (a + suc n)) (λ v. nat_lt v.0 (a + 1 + n)) vs (λ v k. let x = ltb-true v.0 (a + suc n) k in lt-ltb v.0 (a + 1 + n) (omega arith)) h

  found_here : u.0 ≡ a → (u.0 == a) ≡ true → Found (a + 1) n us → filter (is_among (u ∷ us)) (map unit_number (range_with_len a (suc n))) ≡ u ∷ us
  found_here same t again =
      let rest : filter (is_among us) (map unit_number (range_with_len (a + 1) n)) ≡ us = again (below_again us (second_of_both _ _ hi)) (rest_above (a + 1) us (omega arith) (first_of_both _ _ r)) in
      let below : u.0 < a + 1 = omega (arith, same) in
      rw t ((λ i. unit_number (sym same i) ∷ (past u us (a + 1) n below ∙ rest) i))

  found_later : a < u.0 → (u.0 == a) ≡ false → Found (a + 1) n (u ∷ us) → filter (is_among (u ∷ us)) (map unit_number (range_with_len a (suc n))) ≡ u ∷ us
  found_later above t again =
      let none : is_among us (unit_number a) ≡ false = none_below a us (all_kept (λ v. nat_lt u.0 v.0) (λ v. nat_lt a v.0) us (λ v k. let y = ltb-true u.0 v.0 k in lt-ltb a v.0 (omega arith)) (first_of_both _ _ r)) in
      let rest = again (below_again (u ∷ us) hi) (both _ _ (lt-ltb (a + 1) (u.0 + 1) (omega arith)) (rest_above (a + 1) us (omega arith) (first_of_both _ _ r))) in
      rw (t, none) rest

  found_either : (t : Bool) → (u.0 == a) ≡ t → a < u.0 + 1 → Found (a + 1) n us → Found (a + 1) n (u ∷ us) → filter (is_among (u ∷ us)) (map unit_number (range_with_len a (suc n))) ≡ u ∷ us
  found_either true e lo f g = found_here (eqb-true u.0 a e) e f
  found_either false e lo f g = let apart = eqb-false u.0 a e in found_later (omega (arith, apart)) e g

found_again : (us : List UnitNumber) (a n : ℕ) → is_rising us ≡ true → list_all (λ v. nat_lt v.0 (a + n)) us ≡ true → list_all (λ v. nat_lt a (v.0 + 1)) us ≡ true → filter (is_among us) (map unit_number (range_with_len a n)) ≡ us
found_again [] a n r hi lo = none_among a n
found_again (u ∷ us) a zero r hi lo = absurd (let x = ltb-true u.0 (a + 0) (first_of_both _ _ hi) in let y = ltb-true a (u.0 + 1) (first_of_both _ _ lo) in omega (arith, x, y))
found_again (u ∷ us) a (suc n) r hi lo = found_either u us a n r hi (u.0 == a) refl (ltb-true a (u.0 + 1) (first_of_both _ _ lo)) (found_again us (a + 1) n (second_of_both _ _ r)) (found_again (u ∷ us) (a + 1) n r)

-- a reserved unit is there, since it belongs to a register
reserved_there : (version : ℕ) (units : List UnitDesc) (regs : List RegDesc) (reserved : List UnitNumber) → list_all (is_reg_desc version units) regs ≡ true → are_reserved regs reserved ≡ true → list_all (λ u. nat_lt u.0 (length units)) reserved ≡ true
reserved_there version units regs reserved sound h =
    all_kept (λ u. list_any (λ r. is_among r.units u && list_all (is_among reserved) r.units) regs) (λ u. nat_lt u.0 (length units)) reserved (λ u. known u regs sound) (second_of_both _ _ h)
  where
    known : (u : UnitNumber) (ds : List RegDesc) → list_all (is_reg_desc version units) ds ≡ true → list_any (λ r. is_among r.units u && list_all (is_among reserved) r.units) ds ≡ true → nat_lt u.0 (length units) ≡ true
    known u [] s e = absurd (cc)
    known u (d ∷ ds) s e =
        any_either _ _ (nat_lt u.0 (length units) ≡ true) e
        (λ t. passes_alike (λ v. nat_lt v.0 (length units)) d.units u (second_of_both _ _ (first_of_both _ _ (first_of_both _ _ (first_of_both _ _ s)))) (first_of_both _ _ t))
        (λ t. known u ds (second_of_both _ _ s) t)

tests_same : (p q : UnitNumber → Bool) (xs : List UnitNumber) → ((x : UnitNumber) → p x ≡ q x) → filter p xs ≡ filter q xs
tests_same p q [] h = refl
tests_same p q (x ∷ xs) h = step (q x) refl (h x) (tests_same p q xs h)
  where
    step : (t : Bool) → q x ≡ t → p x ≡ q x → filter p xs ≡ filter q xs → filter p (x ∷ xs) ≡ filter q (x ∷ xs)
    step true e same rest = let first : p x ≡ true = same ∙ e in rw (first, e) (ap (λ ys. x ∷ ys) rest)
    step false e same rest = let first : p x ≡ false = same ∙ e in rw (first, e) rest

pub reserved_back : (version : ℕ) (units : List UnitDesc) (regs : List RegDesc) (reserved : List UnitNumber) → list_all (is_reg_desc version units) regs ≡ true → are_reserved regs reserved ≡ true → reserved_units (length units) regs (reserved_regs regs reserved) ≡ reserved
reserved_back version units regs reserved sound h =
    tests_same (belongs regs (reserved_regs regs reserved)) (is_among reserved) (map unit_number (range_with_len 0 (length units))) (units_same regs reserved (second_of_both _ _ h))
    ∙ found_again reserved 0 (length units) (first_of_both _ _ h)
    (all_kept (λ u. nat_lt u.0 (length units)) (λ v. nat_lt v.0 (0 + length units)) reserved (λ v k. let x = ltb-true v.0 (length units) k in lt-ltb v.0 (0 + length units) (omega arith)) (reserved_there version units regs reserved sound h))
    (all_above reserved)
  where
    all_above : (us : List UnitNumber) → list_all (λ v. nat_lt 0 (v.0 + 1)) us ≡ true
    all_above [] = refl
    all_above (u ∷ us) = both _ _ (lt-ltb 0 (u.0 + 1) (omega arith)) (all_above us)

module _ (regs : List RegDesc) (reserved : List UnitNumber) where
  kept_there : (a n : ℕ) → a + n ≤ length regs → list_all (λ r. nat_lt r.0 (length regs)) (filter (is_whole_reg regs reserved) (map reg_number (range_with_len a n))) ≡ true
  kept_there a zero h = refl
  kept_there a (suc n) h = by (is_whole_reg regs reserved (reg_number a)) refl (kept_there (a + 1) n (omega arith))
    where
      by : (t : Bool) → is_whole_reg regs reserved (reg_number a) ≡ t → list_all (λ r. nat_lt r.0 (length regs)) (filter (is_whole_reg regs reserved) (map reg_number (range_with_len (a + 1) n))) ≡ true
          → list_all (λ r. nat_lt r.0 (length regs)) (filter (is_whole_reg regs reserved) (map reg_number (range_with_len a (suc n)))) ≡ true
      by true e rest = rw e (both _ _ (lt-ltb a (length regs) (omega arith)) rest)
      by false e rest = rw e rest

  -- all registers that are printed are there
  pub reserved_regs_there : list_all (λ r. nat_lt r.0 (length regs)) (reserved_regs regs reserved) ≡ true
  reserved_regs_there = kept_there 0 (length regs) (omega arith)
