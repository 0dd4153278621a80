-- How often the steps behind the beginning of a run begin another one, spill ranges and place tinies.
use Rattle.std.specs.Prelude.{◌≡◌, ℕ, Bool, true, false, ◌≤◌, nat_eq, List, [], ◌∷◌, flat_map, length, count_by}
use Rattle.std.specs.List.{list_any, IsDistinct}
use Rattle.watchers.specs.declared.steps.Step.{Step}
use Rattle.watchers.specs.declared.steps.Step.TheVariants as steps

-- the step begins a run
abbrev pub is_begin : Step → Bool
is_begin (steps.Begin number) = true
is_begin _ = false

-- the range that a step spills
abbrev pub spilled_by : Step → List ℕ
spilled_by (steps.Spill v tinies) = v ∷ []
spilled_by _ = []

-- the tinies that a step makes
abbrev pub tinies_of : Step → List ℕ
tinies_of (steps.Spill v tinies) = tinies
tinies_of _ = []

-- the step gives the tinies of a place their registers
abbrev pub is_place : Step → Bool
is_place (steps.Place choices) = true
is_place _ = false

-- None begins a run, each range is spilled at most once, and tinies are placed at most as often as there are tinies.
pub record AreBounded (es : List Step) : Type 0 where
  pub behind : list_any is_begin es ≡ false
  pub once : IsDistinct nat_eq (flat_map spilled_by es)
  pub few : count_by is_place es ≤ length (flat_map tinies_of es)
