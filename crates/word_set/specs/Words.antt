-- Distinct words in the order in which they came.
use Rattle.std.specs.Prelude.{ℕ, Bool, List, [], ◌∷◌, ◌++◌, not, if◌then◌else◌}
use Rattle.std.specs.List.{list_any}
use Rattle.target_base.specs.Storage.{same_numbers}

-- the word isn't there
abbrev pub is_fresh : List (List ℕ) → List ℕ → Bool
is_fresh names w = not (list_any (same_numbers w) names)

-- the words with this one at the end, unless it is there
abbrev pub with_name : List (List ℕ) → List ℕ → List (List ℕ)
with_name names w = if is_fresh names w then names ++ w ∷ [] else names
