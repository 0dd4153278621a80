-- What each state of an allocation keeps, and that its function does what the source does.
use Rattle.std.specs.Prelude.{◌≡◌, ℕ, List, None}
use Rattle.target_base.specs.declared.types.Target.{Target}
use Rattle.mir_func.specs.Value.{Function}
use Rattle.mir_meaning.specs.Codes.{refines}
use Rattle.live_edits.specs.declared.fold.Join.{Join}
use Rattle.spiller.specs.Slots.{Slots}
use Rattle.rewriter.specs.Physical.{Assignment, register_of}
use Rattle.clear_laws.specs.Apart.{IsApart}
use Rattle.clear_laws.specs.Spills.{HasEarlyReload}
use Rattle.ready_laws.specs.Runs.{KeepsReady}
use Rattle.ready_laws.specs.Starts.{ListsStart}
use Rattle.sibling_laws.specs.Siblings.{AreSiblingsApart, KnowsOriginals}
use Rattle.run_end_laws.specs.Allocating.{IsAllocating, IsAllocationStep, IsPrepared}

-- What each state keeps. The function is that of a run, with the rules of a source on blocks and flags, and its frame objects are
-- known; originals are known; ranges of one original are apart from each other and from their slot; registers of ranges don't
-- clash; and no range is live at the start of the first block, which lists the units that are.
pub record KeepsState (t : Target) (f : Function) (s : Slots) (rs : Assignment) : Type 0 where
  pub ready : KeepsReady t f s
  pub known : KnowsOriginals f s
  pub siblings : AreSiblingsApart t f s
  pub registers : IsApart t f rs
  pub start : ListsStart t f

-- A prepared function, no range of which has a register, has it,
abbrev pub PreparedKeepsState : Type 0
PreparedKeepsState =
    (t : Target) (freqs : List ℕ) (source f : Function) (js : List Join) (s : Slots) (rs : Assignment)
    → IsPrepared t freqs source js f s → ((v : ℕ) → register_of rs v ≡ None) → KeepsState t f s rs

-- each step keeps it,
abbrev pub StepKeepsState : Type 0
StepKeepsState =
    (t : Target) (f g : Function) (s r : Slots) (rs new : Assignment) → (HasEarlyReload t → ⊥) → KeepsState t f s rs → IsAllocationStep t f s rs g r new → KeepsState t g r new

-- and so each state has it.
abbrev pub AllocatingKeepsState : Type 0
AllocatingKeepsState =
    (t : Target) (freqs : List ℕ) (source f g : Function) (js : List Join) (s r : Slots) (rs : Assignment)
    → (HasEarlyReload t → ⊥) → IsPrepared t freqs source js f s → IsAllocating t f s g r rs → KeepsState t g r rs

-- The function behind a step does what it did before,
abbrev pub StepRefines : Type 0
StepRefines =
    (t : Target) (f g : Function) (s r : Slots) (rs new : Assignment) → KeepsState t f s rs → IsAllocationStep t f s rs g r new → refines t f g

-- and so that of each state does what the source does.
abbrev pub AllocatingRefines : Type 0
AllocatingRefines =
    (t : Target) (freqs : List ℕ) (source f g : Function) (js : List Join) (s r : Slots) (rs : Assignment)
    → (HasEarlyReload t → ⊥) → IsPrepared t freqs source js f s → IsAllocating t f s g r rs → refines t source g
