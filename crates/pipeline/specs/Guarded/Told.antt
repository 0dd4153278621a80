-- What watchers are told of the run over a function.
use Rattle.std.specs.Prelude.{ℕ, List, ◌∷◌}
use Rattle.watchers.specs.declared.steps.Step.{Step}
use Rattle.watchers.specs.declared.steps.Step.TheVariants.{Begin}
use Rattle.watchers.specs.Told.{AllTold, PartTold}
use Rattle.greedy_core.specs.Bounds.{AreBounded}

-- Each watcher was told one and the same list of steps. The first is that the run over the function of this number begins.
-- None behind it begins a run; among them each range is spilled at most once, and tinies are placed at most as often as
-- there are tinies.
abbrev pub ToldRun : {W : Type 0} → (W → Step → W) → ℕ → List W → List W → Type 0
ToldRun next number old new = (steps : List Step) × AllTold next (Begin number ∷ steps) old new × AreBounded steps

-- there is a list of steps of which each watcher was told a first part
abbrev pub ToldPart : {W : Type 0} → (W → Step → W) → List W → List W → Type 0
ToldPart next old new = (steps : List Step) × PartTold next steps old new
