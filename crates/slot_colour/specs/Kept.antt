-- What the coloured function keeps of the function.
use Rattle.std.specs.Prelude.{◌≡◌, ◌≤◌, ℕ, Bool, true, List, map, filter}
use Rattle.target_base.specs.declared.types.Target.{Target}
use Rattle.target_base.specs.Names.{are_distinct_numbers}
use Rattle.mir_func.specs.Value.{Function}
use Rattle.mir_meaning.specs.declared.Form.TheVariants as forms
use Rattle.mir_meaning.specs.Codes.{refines}
use Rattle.mir_meaning.specs.Valid.{IsValid}
use Rattle.slot_laws.specs.Homes.{IsAllocated, spill_count}
use Rattle.slot_colour.specs.Clashes.{SlotsClash}
use Rattle.slot_colour.specs.Colouring.{coloured}

-- the numbers of the spill slots among frame objects
abbrev pub spill_numbers : List (ℕ × Bool) → List ℕ
spill_numbers frames = map (λ o. o.0) (filter (λ o. o.1) frames)

-- no spill slot stands twice among the frame objects
abbrev pub AreOnce : Function → Type 0
AreOnce f = are_distinct_numbers (spill_numbers f.frames) ≡ true

-- the test answers true of each two slots that clash
abbrev pub NoticesClashes : Target → Function → (ℕ → ℕ → Bool) → Type 0
NoticesClashes t f clash = (s r : ℕ) → SlotsClash t f s r → clash s r ≡ true

-- what an answer keeps of a function that is valid as an allocated one
pub record IsKept (t : Target) (f g : Function) : Type 0 where
  -- no more spill slots
  pub count : spill_count g ≤ spill_count f
  pub valid : IsValid t forms.Allocated g
  -- each does what the other does
  pub forth : refines t f g
  pub back : refines t g f

-- the coloured function has no more spill slots, whatever the test
abbrev pub KeepsCount : Type 0
KeepsCount = (clash : ℕ → ℕ → Bool) (f : Function) → spill_count (coloured clash f) ≤ spill_count f

-- it keeps all of a function no spill slot of which stands twice, where the test notices each clash
abbrev pub KeepsAll : Type 0
KeepsAll = (t : Target) (f : Function) (clash : ℕ → ℕ → Bool) → IsAllocated t f → AreOnce f → NoticesClashes t f clash → IsKept t f (coloured clash f)
