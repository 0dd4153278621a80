-- A list behind what was made before.
use Rattle.std.proofs.Common.{◌≡◌, List, [], ◌∷◌, ◌++◌, Some, None, refl, append_assoc, append-nil}
use Rattle.std.specs.Prelude.{Option, option_map, option_and_then}

abbrev pub onto : {X : Type 0} → List X → Option (List X) → Option (List X)
onto made rest = option_map (λ more. made ++ more) rest

-- one more element
pub onto_more : {X : Type 0} (made : List X) (x : X) (rest : Option (List X)) → onto made (option_and_then (λ xs. Some (x ∷ xs)) rest) ≡ onto (made ++ x ∷ []) rest
onto_more made x None = refl
onto_more made x (Some xs) = simp append_assoc

pub onto_none : {X : Type 0} (made : List X) → onto made (Some []) ≡ Some made
onto_none made = simp append-nil
