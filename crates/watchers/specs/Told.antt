-- What watchers are after they were told steps.
use Rattle.std.specs.Prelude.{◌≡◌, ℕ, ◌≤◌, List, [], ◌∷◌, ◌++◌, map, take, drop, length}
use Rattle.std.specs.List.{AllZip}
use Rattle.watchers.specs.declared.steps.Step.{Step}

-- a watcher after a list of steps, in order, where next says what it is after one
abbrev pub told : {W : Type 0} → (W → Step → W) → W → List Step → W
told next w [] = w
told next w (step ∷ rest) = told next (next w step) rest

-- some of the first are what they become by f, and the others are as they were
abbrev pub FirstBecame : {W : Type 0} → (W → W) → List W → List W → Type 0
FirstBecame f old new = (k : ℕ) × (k ≤ length old) × (new ≡ map f (take k old) ++ drop k old)

-- each watcher stands at what it is after these steps
abbrev pub AllTold : {W : Type 0} → (W → Step → W) → List Step → List W → List W → Type 0
AllTold next steps old new = new ≡ map (λ w. told next w steps) old

-- each watcher stands at what it is after some first part of these steps
abbrev pub PartTold : {W : Type 0} → (W → Step → W) → List Step → List W → List W → Type 0
PartTold next steps old new = AllZip (λ w v. (k : ℕ) × (v ≡ told next w (take k steps))) old new
