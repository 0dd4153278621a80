-- Tests of elements one after the other, and units among those of several registers.
use Rattle.std.proofs.Common.{◌≡◌, ◌∙◌, ◌⊎◌, inl, inr, ℕ, ◌+◌, ◌<◌, ◌≤◌, List, [], ◌∷◌, ◌++◌, Bool, true, false, refl, sym, ap, length, drop, take, get_or}
use Rattle.std.specs.Prelude.{◌||◌, ◌&&◌, ◌==◌, filter, flat_map, nat_lt}
use Rattle.std.specs.List.{list_all, list_any}
use Rattle.std.proofs.lemmas.List.Folds.{list_any-append}
use Rattle.std.proofs.lemmas.Bool.{lt-ltb, le-ltb, cases_lt}
use Rattle.std.proofs.lemmas.List.{drop_more, take_more, take_all}
use Rattle.std.proofs.lemmas.List.Elements.{filter-append}
use Rattle.phi_elim.proofs.Walks.{drop_all}
use Rattle.target_base.specs.declared.types.Unit.{Unit as UnitNumber}
use Rattle.target_base.specs.declared.types.Target.{Target}
use Rattle.target_base.specs.Storage.{is_among}
use Rattle.mir_func.specs.declared.func.Instr.{Instr}
use Rattle.live_lanes.specs.declared.table.Table.{Table}
use Rattle.place_solve.specs.Positions.{is_taken, writes, entry_tests}

pub units_any : {X : Type 0} (g : X → List UnitNumber) (xs : List X) (u : UnitNumber) → list_any (λ x. is_among (g x) u) xs ≡ is_among (flat_map g xs) u
units_any g [] u = refl
units_any g (x ∷ xs) u = ap (λ b. is_among (g x) u || b) (units_any g xs u) ∙ sym (list_any-append (λ v. v.0 == u.0) (g x) (flat_map g xs))

-- a test of any, element by element

pub any_next : {X : Type 0} (f : X → Bool) (xs : List X) (k : ℕ) (x : X) (b total : Bool) → k < length xs → x ≡ get_or xs k x → b ≡ f x → b ≡ false → list_any f (drop k xs) ≡ total → list_any f (drop (k + 1) xs) ≡ total
any_next f xs k x b total h at is fails was =
    let e : list_any f (drop k xs) ≡ (f x || list_any f (drop (k + 1) xs)) = rw (drop_more xs k x h, ← at) refl in
    let n : f x ≡ false = sym is ∙ fails in
    sym (ap (λ c. c || list_any f (drop (k + 1) xs)) n) ∙ (sym e ∙ was)

pub any_found : {X : Type 0} (f : X → Bool) (xs : List X) (k : ℕ) (x : X) (b total : Bool) → k < length xs → x ≡ get_or xs k x → b ≡ f x → b ≡ true → list_any f (drop k xs) ≡ total → true ≡ total
any_found f xs k x b total h at is holds was =
    let e : list_any f (drop k xs) ≡ (f x || list_any f (drop (k + 1) xs)) = rw (drop_more xs k x h, ← at) refl in
    let n : f x ≡ true = sym is ∙ holds in
    sym (ap (λ c. c || list_any f (drop (k + 1) xs)) n) ∙ (sym e ∙ was)

pub any_none : {X : Type 0} (f : X → Bool) (xs : List X) (k : ℕ) (total : Bool) → length xs ≤ k → list_any f (drop k xs) ≡ total → false ≡ total
any_none f xs k total h was = rw (drop_all k xs h) at was

pub ruleset anys = (any_next, any_found, any_none)

-- tests of the instructions of a place

abbrev is_more : {X : Type 0} → List X → Bool
is_more [] = false
is_more (x ∷ xs) = true

or-false : (b : Bool) → (b || false) ≡ b
or-false true = refl
or-false false = refl

more-is : {X : Type 0} (xs : List X) (k : ℕ) (d : X) → is_more (drop k xs) ≡ nat_lt k (length xs)
more-is xs k d = go (cases_lt k (length xs))
  where
    go : (k < length xs) ⊎ (length xs ≤ k) → is_more (drop k xs) ≡ nat_lt k (length xs)
    go (inl h) = ap is_more (drop_more xs k d h) ∙ sym (lt-ltb k (length xs) h)
    go (inr h) = ap is_more (drop_all k xs h) ∙ sym (le-ltb k (length xs) h)

module _ (t : Target) (x : Table) (u : UnitNumber) where
  entered-cons : (i : Instr) (is : List Instr) → entry_tests t x u (i ∷ is) ≡ ((is_taken t x u i || (is_more is && writes t i u)) || entry_tests t x u is)
  entered-cons i [] = sym (or-false (is_taken t x u i || false) ∙ or-false (is_taken t x u i))
  entered-cons i (j ∷ is) = refl

  entered-step : (is : List Instr) (k : ℕ) (i : Instr) → k < length is → i ≡ get_or is k i → entry_tests t x u (drop k is) ≡ ((is_taken t x u i || (nat_lt (k + 1) (length is) && writes t i u)) || entry_tests t x u (drop (k + 1) is))
  entered-step is k i h at = rw (drop_more is k i h, ← at) (entered-cons i (drop (k + 1) is)) ∙ ap (λ b. (is_taken t x u i || (b && writes t i u)) || entry_tests t x u (drop (k + 1) is)) (more-is is (k + 1) i)

  pub taken-there : (is : List Instr) (k : ℕ) (i : Instr) (total : Bool) → k < length is → i ≡ get_or is k i → is_taken t x u i ≡ true → entry_tests t x u (drop k is) ≡ total → true ≡ total
  taken-there is k i total h at holds was = sym (entered-step is k i h at ∙ ap (λ b. (b || (nat_lt (k + 1) (length is) && writes t i u)) || entry_tests t x u (drop (k + 1) is)) holds) ∙ was

  pub written-there : (is : List Instr) (k : ℕ) (i : Instr) (total : Bool) → k < length is → i ≡ get_or is k i → is_taken t x u i ≡ false → k + 1 < length is → writes t i u ≡ true → entry_tests t x u (drop k is) ≡ total → true ≡ total
  written-there is k i total h at fails more holds was =
      let m : nat_lt (k + 1) (length is) ≡ true = lt-ltb (k + 1) (length is) more in
      sym (entered-step is k i h at ∙ ap (λ b. (b || (nat_lt (k + 1) (length is) && writes t i u)) || entry_tests t x u (drop (k + 1) is)) fails ∙ ap (λ b. (b && writes t i u) || entry_tests t x u (drop (k + 1) is)) m ∙ ap (λ b. b || entry_tests t x u (drop (k + 1) is)) holds) ∙ was

  pub none-written : (is : List Instr) (k : ℕ) (i : Instr) (total : Bool) → k < length is → i ≡ get_or is k i → is_taken t x u i ≡ false → writes t i u ≡ false → entry_tests t x u (drop k is) ≡ total → entry_tests t x u (drop (k + 1) is) ≡ total
  none-written is k i total h at fails none was =
      sym (entered-step is k i h at ∙ ap (λ b. (b || (nat_lt (k + 1) (length is) && writes t i u)) || entry_tests t x u (drop (k + 1) is)) fails ∙ ap (λ b. (nat_lt (k + 1) (length is) && b) || entry_tests t x u (drop (k + 1) is)) none ∙ ap (λ b. b || entry_tests t x u (drop (k + 1) is)) (and-false (nat_lt (k + 1) (length is)))) ∙ was
    where
      and-false : (b : Bool) → (b && false) ≡ false
      and-false true = refl
      and-false false = refl

  pub none-behind : (is : List Instr) (k : ℕ) (i : Instr) (total : Bool) → k < length is → i ≡ get_or is k i → is_taken t x u i ≡ false → length is ≤ k + 1 → entry_tests t x u (drop k is) ≡ total → entry_tests t x u (drop (k + 1) is) ≡ total
  none-behind is k i total h at fails last was =
      let m : nat_lt (k + 1) (length is) ≡ false = le-ltb (k + 1) (length is) last in
      sym (entered-step is k i h at ∙ ap (λ b. (b || (nat_lt (k + 1) (length is) && writes t i u)) || entry_tests t x u (drop (k + 1) is)) fails ∙ ap (λ b. (b && writes t i u) || entry_tests t x u (drop (k + 1) is)) m) ∙ was

  pub none-there : (is : List Instr) (k : ℕ) (total : Bool) → length is ≤ k → entry_tests t x u (drop k is) ≡ total → false ≡ total
  none-there is k total h was = rw (drop_all k is h) at was

pub ruleset entries = (taken-there, written-there, none-written, none-behind, none-there)

-- a test of all, element by element

pub all_next : {X : Type 0} (f : X → Bool) (xs : List X) (k : ℕ) (x : X) (total : Bool) → k < length xs → x ≡ get_or xs k x → f x ≡ true → list_all f (drop k xs) ≡ total → list_all f (drop (k + 1) xs) ≡ total
all_next f xs k x total h at passes was =
    let e : list_all f (drop k xs) ≡ (f x && list_all f (drop (k + 1) xs)) = rw (drop_more xs k x h, ← at) refl in
    sym (ap (λ c. c && list_all f (drop (k + 1) xs)) passes) ∙ (sym e ∙ was)

pub all_lost : {X : Type 0} (f : X → Bool) (xs : List X) (k : ℕ) (x : X) (total : Bool) → k < length xs → x ≡ get_or xs k x → f x ≡ false → list_all f (drop k xs) ≡ total → false ≡ total
all_lost f xs k x total h at passes was =
    let e : list_all f (drop k xs) ≡ (f x && list_all f (drop (k + 1) xs)) = rw (drop_more xs k x h, ← at) refl in
    sym (ap (λ c. c && list_all f (drop (k + 1) xs)) passes) ∙ (sym e ∙ was)

pub all_passed : {X : Type 0} (f : X → Bool) (xs : List X) (k : ℕ) (total : Bool) → length xs ≤ k → list_all f (drop k xs) ≡ total → true ≡ total
all_passed f xs k total h was = rw (drop_all k xs h) at was

pub ruleset alls = (all_next, all_lost, all_passed)

-- what passes a test, element by element

pub filter_next : {X : Type 0} (f : X → Bool) (xs made : List X) (k : ℕ) (x : X) → k < length xs → x ≡ get_or xs k x → made ≡ filter f (take k xs) → made ++ filter f (x ∷ []) ≡ filter f (take (k + 1) xs)
filter_next f xs made k x h at was = rw (take_more xs k x h, ← at, filter-append f (take k xs) (x ∷ []), was) refl

pub filter_all : {X : Type 0} (f : X → Bool) (xs made : List X) (k : ℕ) → length xs ≤ k → made ≡ filter f (take k xs) → made ≡ filter f xs
filter_all f xs made k h was = was ∙ ap (filter f) (take_all k xs h)

pub ruleset filters = (filter_next, filter_all)
