-- What watchers were told where the run ends.
use Rattle.std.proofs.Common.{◌≡◌, ℕ, List, [], ◌∷◌, map, refl, sym, subst}
use Rattle.watchers.specs.declared.steps.Step.{Step}
use Rattle.watchers.specs.Told.{told, AllTold, PartTold}
use Rattle.watchers.proofs.Runs.{all_is_part}

-- some steps of which each watcher was told a first part
abbrev pub PartOfSome : {W : Type 0} → (W → Step → W) → List W → List W → Type 0
PartOfSome next old new = (steps : List Step) × PartTold next steps old new

none_of_none : {W : Type 0} (next : W → Step → W) (ws : List W) → PartTold next [] ws ws
none_of_none next [] = tt
none_of_none next (w ∷ ws) = ((0, refl), none_of_none next ws)

-- where nothing was told
pub untold : {W : Type 0} (next : W → Step → W) (ws : List W) → PartOfSome next ws ws
untold next ws = ([], none_of_none next ws)

-- where all that was told was told to all
pub all_told : {W : Type 0} (next : W → Step → W) (old new : List W) (steps : List Step) → AllTold next steps old new → PartOfSome next old new
all_told next old new steps all = (steps, subst (PartTold next steps old) (sym all) (all_is_part next old steps))
