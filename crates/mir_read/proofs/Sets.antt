-- Names that look-ups find, or don't.
use Rattle.std.proofs.Common.{◌≡◌, ℕ, List, [], ◌∷◌, ◌++◌, None, Bool, true, false, refl}
use Rattle.std.specs.Prelude.{position}
use Rattle.std.specs.List.{list_any}
use Rattle.target_base.specs.Storage.{same_numbers}
use Rattle.target_base.proofs.Tests.{position_there}
use Rattle.word_set.specs.Words.{with_name}

-- a look-up that finds nothing
pub not_there : {X : Type 0} (p : X → Bool) (xs : List X) → position p xs ≡ None → list_any p xs ≡ false
not_there p xs h = by (list_any p xs) refl
  where
    by : (b : Bool) → list_any p xs ≡ b → list_any p xs ≡ false
    by true e = absurd (position_there p xs e h)
    by false e = e

-- a name that isn't found is put at the end
pub put_new : (names : List (List ℕ)) (w : List ℕ) → position (same_numbers w) names ≡ None → with_name names w ≡ names ++ w ∷ []
put_new names w h = let e = not_there (same_numbers w) names h in rw e refl

pub ruleset sets = (not_there)
