-- Tests on lists and what they tell.
use Rattle.std.proofs.Common.{◌≡◌, ℕ, ◌<◌, ◌≤◌, List, [], ◌∷◌, length, get_or, Some, None, Bool, true, false, refl, arith, cond, ltb, ◌+◌, suc}
use Rattle.std.specs.Prelude.{◌&&◌, ◌||◌, not, position}
use Rattle.std.proofs.lemmas.Grind.{common_steps}
use Rattle.std.specs.List.{list_all, list_any, position_or_len}
use Rattle.std.proofs.lemmas.List.Folds.{list_all_at, list_any_at}
use Rattle.std.proofs.lemmas.List.Quantifiers.{position-Some}

pub first_of_both : (a b : Bool) → (a && b) ≡ true → a ≡ true
first_of_both true b h = refl
first_of_both false b h = h

pub second_of_both : (a b : Bool) → (a && b) ≡ true → b ≡ true
second_of_both true b h = h
second_of_both false b h = absurd (cc)

is_true_or_false : (b c : Bool) → (b ≡ false → c ≡ false) → c ≡ true → b ≡ true
is_true_or_false true c f h = refl
is_true_or_false false c f h = absurd (let e = f refl in cc)

-- a test that all elements pass is passed by each
pub each_passes : {X : Type 0} (p : X → Bool) (xs : List X) (i : ℕ) (d : X) → i < length xs → list_all p xs ≡ true → p (get_or xs i d) ≡ true
each_passes p xs i d h e = is_true_or_false (p (get_or xs i d)) (list_all p xs) (list_all_at p xs i d h) e

-- the place that is found lies within the list
pub position_within : {X : Type 0} (p : X → Bool) (xs : List X) (i : ℕ) → position p xs ≡ Some i → i < length xs
position_within p [] i h = absurd (cc)
position_within p (x ∷ xs) i h = let f = position-Some p (x ∷ xs) i x h in f.0

pub position_fits : {X : Type 0} (p : X → Bool) (xs : List X) (i : ℕ) (most : ℕ) → length xs ≤ most → position p xs ≡ Some i → i < most
position_fits p xs i most h e = let f = position_within p xs i e in omega arith

step : (b c : Bool) (q n : ℕ) → (b || c) ≡ true → (c ≡ true → q < n) → cond (not b) (1 + q) 0 < suc n
step true c q n h f = omega arith
step false c q n h f = let g = f h in omega arith

any_before_end : {X : Type 0} (p : X → Bool) (xs : List X) → list_any p xs ≡ true → position_or_len p xs < length xs
any_before_end p [] h = absurd (cc)
any_before_end p (x ∷ xs) h = step (p x) (list_any p xs) (position_or_len p xs) (length xs) h (any_before_end p xs)

is_no_place : (q n : ℕ) → cond (ltb q n) (Some q) None ≡ None → n ≤ q
is_no_place q n h = grind (arith, common_steps)

-- where some element passes, one is found
pub position_there : {X : Type 0} (p : X → Bool) (xs : List X) → list_any p xs ≡ true → position p xs ≡ None → ⊥
position_there p xs h e = let a = any_before_end p xs h in let b = is_no_place (position_or_len p xs) (length xs) e in omega arith

pub position_found : {X : Type 0} (p : X → Bool) (xs : List X) (i : ℕ) (d : X) → i < length xs → p (get_or xs i d) ≡ true → position p xs ≡ None → ⊥
position_found p xs i d h e = position_there p xs (list_any_at p xs i d h e)
