-- Names that are looked up among distinct names are found at their places.
use Rattle.std.proofs.Common.{◌≡◌, ℕ, ◌<◌, List, [], ◌∷◌, length, Some, Bool, true, false, refl, ◌∙◌, arith, map, ltb, suc, zero}
use Rattle.std.specs.Prelude.{nat_lt}
use Rattle.std.specs.List.{list_all, list_any, position_or_len}
use Rattle.std.proofs.lemmas.Bool.{ltb-true, lt-ltb, not-true}
use Rattle.std.proofs.lemmas.List.{length-map}
use Rattle.target_base.specs.declared.types.Unit.{Unit as UnitNumber}
use Rattle.target_base.specs.declared.types.Reg.{Reg}
use Rattle.target_base.specs.declared.types.UnitDesc.{UnitDesc}
use Rattle.target_base.specs.declared.types.RegDesc.{RegDesc}
use Rattle.target_base.specs.Names.{are_distinct_names, is_name}
use Rattle.target_base.specs.Storage.{same_numbers}
use Rattle.target_base.proofs.Lookups.{same_numbers_refl}
use Rattle.target_base.proofs.Tests.{first_of_both, second_of_both}
use Rattle.target_desc.specs.Names.{place_of}
use Rattle.target_desc.specs.Resolving.{units_named, regs_named}
use Rattle.target_desc.specs.Printed.{name_at, unit_words, reg_words}
use Rattle.target_desc.proofs.Grown.{both, same_sym, neither}

module _ {X : Type 0} (name : X → List ℕ) where
  -- a test that the name at a place passes is passed by some name
  named_at : (p : List ℕ → Bool) (xs : List X) (k : ℕ) → k < length xs → list_all p (map name xs) ≡ true → p (name_at name xs k) ≡ true
  named_at p [] k h e = absurd (omega arith)
  named_at p (x ∷ xs) zero h e = first_of_both _ _ e
  named_at p (x ∷ xs) (suc k) h e = named_at p xs k (omega arith) (second_of_both _ _ e)

  none_at : (p : List ℕ → Bool) (xs : List X) (k : ℕ) → k < length xs → list_any p (map name xs) ≡ false → p (name_at name xs k) ≡ false
  none_at p [] k h e = absurd (omega arith)
  none_at p (x ∷ xs) zero h e = (neither (p (name x)) (list_any p (map name xs)) e).0
  none_at p (x ∷ xs) (suc k) h e = none_at p xs k (omega arith) ((neither (p (name x)) (list_any p (map name xs)) e).1)

  place_step : (w : List ℕ) (v : List ℕ) (vs : List (List ℕ)) (k : ℕ) → same_numbers w v ≡ false → position_or_len (same_numbers w) vs ≡ k → position_or_len (same_numbers w) (v ∷ vs) ≡ suc k
  place_step w v vs k e h = rw e (omega (arith, h))

  found_at : (xs : List X) (k : ℕ) → k < length xs → are_distinct_names (map name xs) ≡ true → position_or_len (same_numbers (name_at name xs k)) (map name xs) ≡ k
  found_at [] k h e = absurd (omega arith)
  found_at (x ∷ xs) zero h e = rw (same_numbers_refl (name x)) refl
  found_at (x ∷ xs) (suc k) h e =
      let w = name_at name xs k in
      let apart = none_at (same_numbers (name x)) xs k (omega arith) (not-true _ (first_of_both _ _ e)) in
      place_step w (name x) (map name xs) k (same_sym w (name x) ∙ apart) (found_at xs k (omega arith) (second_of_both _ _ e))

  -- the place of a name
  pub place_back : (xs : List X) (k : ℕ) → k < length xs → are_distinct_names (map name xs) ≡ true → place_of (map name xs) (name_at name xs k) ≡ Some k
  place_back xs k h e =
      let found = found_at xs k h e in
      let below : ltb k (length (map name xs)) ≡ true = lt-ltb k (length (map name xs)) (omega (arith, length-map xs name)) in
      rw (found, below) refl

  pub name_there : (xs : List X) (k : ℕ) → k < length xs → list_all is_name (map name xs) ≡ true → is_name (name_at name xs k) ≡ true
  name_there xs k h e = named_at is_name xs k h e

pub units_back : (units : List UnitDesc) (us : List UnitNumber) → are_distinct_names (map (λ u. u.name) units) ≡ true → list_all (λ u. nat_lt u.0 (length units)) us ≡ true → units_named (map (λ u. u.name) units) (unit_words units us) ≡ Some us
unfolding units_named
units_back units [] e h = refl
units_back units (u ∷ us) e h =
    let here = place_back (λ d. d.name) units u.0 (ltb-true u.0 (length units) (first_of_both _ _ h)) e in
    let rest = units_back units us e (second_of_both _ _ h) in
    rw (here, rest) refl

pub regs_back : (regs : List RegDesc) (rs : List Reg) → are_distinct_names (map (λ u. u.name) regs) ≡ true → list_all (λ r. nat_lt r.0 (length regs)) rs ≡ true → regs_named (map (λ u. u.name) regs) (reg_words regs rs) ≡ Some rs
unfolding regs_named
regs_back regs [] e h = refl
regs_back regs (r ∷ rs) e h =
    let here = place_back (λ d. d.name) regs r.0 (ltb-true r.0 (length regs) (first_of_both _ _ h)) e in
    let rest = regs_back regs rs e (second_of_both _ _ h) in
    rw (here, rest) refl

-- the names of units and of registers that are there are names
pub unit_words_are_names : (units : List UnitDesc) (us : List UnitNumber) → list_all is_name (map (λ u. u.name) units) ≡ true → list_all (λ u. nat_lt u.0 (length units)) us ≡ true → list_all is_name (unit_words units us) ≡ true
unit_words_are_names units [] e h = refl
unit_words_are_names units (u ∷ us) e h = both _ _ (name_there (λ d. d.name) units u.0 (ltb-true u.0 (length units) (first_of_both _ _ h)) e) (unit_words_are_names units us e (second_of_both _ _ h))

pub reg_words_are_names : (regs : List RegDesc) (rs : List Reg) → list_all is_name (map (λ u. u.name) regs) ≡ true → list_all (λ r. nat_lt r.0 (length regs)) rs ≡ true → list_all is_name (reg_words regs rs) ≡ true
reg_words_are_names regs [] e h = refl
reg_words_are_names regs (r ∷ rs) e h = both _ _ (name_there (λ d. d.name) regs r.0 (ltb-true r.0 (length regs) (first_of_both _ _ h)) e) (reg_words_are_names regs rs e (second_of_both _ _ h))
