-- Places that admit a choice of registers, and one that admits none.
use Rattle.std.specs.Prelude.{◌≡◌, ℕ, Bool, List, [], ◌∷◌, map, filter}
use Rattle.target_base.specs.declared.types.Reg.{Reg}
use Rattle.target_base.specs.Mini.{mini_target}
use Rattle.mir_func.specs.Value.{Function}
use Rattle.mir_meaning.specs.Places.{Needs, place_of, Admits, UnitsOf, solutions, reaches_back}
use Rattle.worked_examples.specs.MachineCode.Sample.{gr32, low}
use Rattle.worked_examples.specs.MachineCode.Functions.{crowd, crowded, chosen}

abbrev pub crowded_function : Function
crowded_function = crowd (low ∷ low ∷ low ∷ gr32 ∷ []) crowded

-- three uses in a class of two registers
abbrev pub NothingServes : Type 0
NothingServes = Admits mini_target crowded_function (place_of mini_target crowded_function (crowded ∷ [])) → ⊥

abbrev pub chosen_function : Function
chosen_function = crowd (gr32 ∷ low ∷ low ∷ gr32 ∷ []) chosen

abbrev pub chosen_place : Needs
chosen_place = place_of mini_target chosen_function (chosen ∷ [])

abbrev pub first_choice : List (List Reg) → List ℕ
first_choice [] = []
first_choice (rs ∷ more) = map (λ r. r.0) rs

-- The first choice for the uses leaves $eax and $ecx to those that can be nowhere else. With the definition first,
-- which may lie where a use does, it is $eax, $edx, $eax, $ecx.
abbrev pub FirstChoices : Type 0
FirstChoices =
    Admits mini_target chosen_function chosen_place
    × ((entry exit : ℕ → Bool) → UnitsOf mini_target chosen_function chosen_place entry exit → first_choice (solutions mini_target entry exit chosen_place.variables) ≡ 0 ∷ 2 ∷ 0 ∷ 1 ∷ [])
    × ((entry exit : ℕ → Bool) → UnitsOf mini_target chosen_function chosen_place entry exit → first_choice (solutions mini_target entry exit (filter (λ v. reaches_back v.kind) chosen_place.variables)) ≡ 2 ∷ 0 ∷ 1 ∷ [])
