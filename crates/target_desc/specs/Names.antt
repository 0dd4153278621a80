-- Names in the order of their declaration.
use Rattle.std.specs.Prelude.{ℕ, List, Option, position}
use Rattle.target_base.specs.Storage.{same_numbers}

-- the number of a name: how many of its sort were declared before it
abbrev pub place_of : List (List ℕ) → List ℕ → Option ℕ
place_of names w = position (same_numbers w) names
