-- The basic allocator: its steps, and the run from a prepared function to the state in which no range waits. A range is
-- at the stage New or is a tiny; there are no cascades and no depths, and each range waits with the weight that it had
-- when it was queued.
use Rattle.std.specs.Prelude.{◌≡◌, ◌⊎◌, ℕ, Bool, true, false, ◌<◌, List, [], ◌∷◌, ◌++◌, map, filter, length, zip, None, Some, slice_get}
use Rattle.std.specs.List.{AllZip}
use Rattle.target_base.specs.declared.types.Reg.{Reg}
use Rattle.target_base.specs.declared.types.Target.{Target}
use Rattle.mir_func.specs.Value.{Function}
use Rattle.meaning.specs.Live.{Among}
use Rattle.mir_meaning.specs.Registers.{numbers}
use Rattle.mir_meaning.specs.Points.{PointCount}
use Rattle.block_freq.specs.Weights.{weight_of}
use Rattle.interference.specs.Clashes.{register_in}
use Rattle.evictor.specs.Candidates.{Assignment}
use Rattle.basic_alloc.specs.declared.choice.Choice.{Choice}
use Rattle.basic_alloc.specs.declared.choice.Choice.TheVariants as choices
use Rattle.basic_alloc.specs.Basic.{IsChoice}
use Rattle.watchers.specs.declared.steps.Step.{Step}
use Rattle.watchers.specs.declared.steps.Step.TheVariants as steps
use Rattle.greedy_core.specs.State.{New, Tiny, Range, waiting, State, is_named, Knows, taken_out}
use Rattle.greedy_core.specs.Step as step

-- the range waits before another one: a tiny before a range that is none, then the heavier one, then that of the lower number
abbrev pub ComesBefore : Bool → ℕ → ℕ → Bool → ℕ → ℕ → Type 0
ComesBefore is_tiny weight v is_tiny' weight' w =
    ((is_tiny ≡ true) × (is_tiny' ≡ false))
    ⊎ ((is_tiny ≡ is_tiny') × ((weight' < weight) ⊎ ((weight ≡ weight') × (v < w))))

module _ {Slots : Type 0} where
  -- the range was made by spilling, for one place
  abbrev pub is_tiny_in : State Slots → ℕ → Bool
  is_tiny_in s v = elim (slice_get s.ranges v) [ None ↦ false | Some r ↦ step.is_tiny r.stage ]

  -- the tinies, by their numbers
  abbrev pub tinies_in : State Slots → List ℕ
  tinies_in s = filter (is_tiny_in s) (numbers 0 (length s.ranges))

  -- the registers of ranges
  abbrev pub assignment_in : State Slots → Assignment
  assignment_in s w = register_in (map (λ r. r.register) s.ranges) w

  -- of all that wait this range, of this weight, comes first
  abbrev pub IsFirst : State Slots → ℕ → ℕ → Type 0
  IsFirst s v weight =
      Among (v, weight) s.queue
      × ((w weight' : ℕ) → Among (w, weight') s.queue → (v ≡ w) ⊎ ComesBefore (is_tiny_in s v) weight v (is_tiny_in s w) weight' w)

  -- the range has this weight now
  abbrev pub HasWeight : Target → List ℕ → State Slots → ℕ → ℕ → Type 0
  HasWeight t freqs s v weight = (points : ℕ) × PointCount t s.function v points × (weight ≡ weight_of s.function.blocks freqs v points)

  -- the state with these ranges queued, each with the weight that it has now
  abbrev pub Queued : Target → List ℕ → List ℕ → State Slots → State Slots → Type 0
  Queued t freqs vs s s' = (ws : List ℕ) × AllZip (HasWeight t freqs s) vs ws × (s' ≡ record s { queue = s.queue ++ zip vs ws })

module _ (P : step.Passes) (t : Target) (freqs : List ℕ) where
  abbrev pub Here : Type 0
  Here = State P.Slots

  -- the ranges of the places of a spilled range
  abbrev pub numbers_of : step.Spilling P.Slots → List ℕ
  numbers_of x = map (λ w. w.0) x.tinies

  -- what is told of the range's spilling
  abbrev pub told_of : ℕ → step.Spilling P.Slots → Step
  told_of v x = steps.Spill v (numbers_of x)

  -- the choice for the range
  abbrev pub Chooses : Here → ℕ → Choice → Type 0
  Chooses s v choice = IsChoice t s.function (assignment_in s) freqs (tinies_in s) v choice

  -- the ranges are spilled one after the other: what is told of it, and the tinies that they leave
  pub data SpillsAll : Here → List ℕ → List Step → List ℕ → Here → Type 0 where
    none : {s : Here} → SpillsAll s [] [] [] s
    more : {s s' : Here} {w : ℕ} {ws ts : List ℕ} {es : List Step} {x : step.Spilling P.Slots} →
        P.Spills t s.function s.slots w x → SpillsAll (step.spilled P t freqs x s) ws es ts s' →
        SpillsAll s (w ∷ ws) (told_of w x ∷ es) (numbers_of x ++ ts) s'

  -- What is done for range v, of which r is known, once it is taken out of the queue, and what is told of it.
  pub data Does (s : Here) (v : ℕ) (r : Range) : List Step → Here → Type 0 where
    free : {p : Reg} → Chooses s v (choices.Take p) → Does s v r (steps.Assign v p ∷ []) (step.assigned P t freqs v p s)
    oust : {p : Reg} {ws ts : List ℕ} {es : List Step} {s' s'' : Here} →
        Chooses s v (choices.Oust p ws) → SpillsAll (step.unassigned P t freqs ws s) ws es ts s' →
        Queued t freqs (ts ++ v ∷ []) s' s'' →
        Does s v r es s''
    spill : {x : step.Spilling P.Slots} {s' : Here} →
        Chooses s v choices.Neither → r.stage ≡ New → P.Spills t s.function s.slots v x →
        Queued t freqs (numbers_of x) (step.spilled P t freqs x s) s' →
        Does s v r (told_of v x ∷ []) s'
    place : {at : ℕ} {cs : List (ℕ × Reg)} {ws : List ℕ} {s' : Here} →
        Chooses s v choices.Neither → r.stage ≡ Tiny at → step.Chosen P t freqs s at cs →
        step.AllInTheWay P t freqs (step.released P t freqs (step.tinies_at P t freqs s at) s) cs ws →
        Queued t freqs ws (step.all_assigned P t freqs cs (step.unassigned P t freqs ws (step.released P t freqs (step.tinies_at P t freqs s at) s))) s' →
        Does s v r (steps.Place cs ∷ []) s'

  -- one step: the range that comes first is taken out of the queue, and what the choice for it says is done
  abbrev pub Next : Here → List Step → Here → Type 0
  Next s es s' = (v : ℕ) × (weight : ℕ) × (r : Range) × IsFirst s v weight × Knows s v r × Does (taken_out (v ∷ []) s) v r es s'

  -- the steps from a state to the one in which no range waits, with all that is told of them
  pub data Steps : Here → List Step → Here → Type 0 where
    ended : {s : Here} → s.queue ≡ [] → Steps s [] s
    goes : {s s' last : Here} {es fs : List Step} → Next s es s' → Steps s' fs last → Steps s (es ++ fs) last

  -- the first state of a prepared function: all ranges that it names wait
  abbrev pub FirstState : Function → Here → Type 0
  FirstState f s =
      Queued t freqs (filter (is_named f) (numbers 0 (length f.classes)))
      (record { function = f; ranges = map (λ c. waiting New 0) f.classes; greatest = 0; slots = P.first_slots f; queue = [] }) s

  -- the run over a prepared function, the k-th of its file: what is told of it, and its last state
  abbrev pub Run : Function → ℕ → List Step → Here → Type 0
  Run f k journal last = (s : Here) × (es : List Step) × FirstState f s × Steps s es last × (journal ≡ steps.Begin k ∷ es)
