-- What a run keeps of its steps.
use Rattle.std.specs.Prelude.{◌≡◌, ◌≤◌, ◌+◌, ℕ, Bool, false, nat_eq, List, flat_map, length, count_by}
use Rattle.std.specs.List.{list_any, IsDistinct}
use Rattle.std.specs.Ordering.{nat_cmp}
use Rattle.std.specs.BTreeSet.{contains_by}
use Rattle.watchers.specs.declared.steps.Step.{Step}
use Rattle.greedy_core.specs.declared.ledger.StepBudget.{StepBudget}
use Rattle.greedy_core.specs.Bounds.{is_begin, spilled_by, tinies_of, is_place}

-- the range was spilled
abbrev pub has : StepBudget → ℕ → Bool
has l v = contains_by (nat_cmp v) l.spilled

-- it is what is kept of these steps, of which none begins a run, and which spill each range at most once
pub record Records (l : StepBudget) (es : List Step) : Type 0 where
  pub behind : list_any is_begin es ≡ false
  pub spilled : (v : ℕ) → has l v ≡ list_any (nat_eq v) (flat_map spilled_by es)
  pub once : IsDistinct nat_eq (flat_map spilled_by es)
  pub spare : l.spare + count_by is_place es ≤ length (flat_map tinies_of es)
