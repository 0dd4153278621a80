-- A name that is looked up and isn't found is new.
use Rattle.std.proofs.Common.{◌≡◌, ℕ, List, Some, None, Bool, true, false, refl, ap, sym, not}
use Rattle.std.specs.Prelude.{position}
use Rattle.std.specs.List.{list_any}
use Rattle.std.proofs.lemmas.List.Quantifiers.{position-Some}
use Rattle.std.proofs.lemmas.List.Folds.{list_any_at}
use Rattle.target_base.specs.Storage.{same_numbers}
use Rattle.target_base.proofs.Tests.{position_there}
use Rattle.word_set.specs.Words.{is_fresh}

not_there : {X : Type 0} (p : X → Bool) (xs : List X) → None ≡ position p xs → list_any p xs ≡ false
not_there p xs h = by (list_any p xs) refl
  where
    by : (b : Bool) → list_any p xs ≡ b → list_any p xs ≡ false
    by true e = absurd (position_there p xs e (sym h))
    by false e = e

pub none_is_fresh : (names : List (List ℕ)) (w : List ℕ) → None ≡ position (same_numbers w) names → true ≡ is_fresh names w
none_is_fresh names w h = ap not (sym (not_there (same_numbers w) names h))

pub some_is_taken : (names : List (List ℕ)) (w : List ℕ) (k : ℕ) → Some k ≡ position (same_numbers w) names → false ≡ is_fresh names w
some_is_taken names w k h =
    let found = position-Some (same_numbers w) names k w (sym h) in
    ap not (sym (list_any_at (same_numbers w) names k w found.0 found.1))
