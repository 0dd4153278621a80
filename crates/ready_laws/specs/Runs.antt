-- A run with what it knows of slots: behind any number of splits and spills its function is ready to be rewritten.
use Rattle.std.specs.Prelude.{◌≡◌, ◌<◌, ℕ, length, map, List}
use Rattle.target_base.specs.declared.types.ClassId.{ClassId}
use Rattle.target_base.specs.declared.types.Target.{Target}
use Rattle.mir_func.specs.Value.{Function}
use Rattle.mir_meaning.specs.declared.Form.TheVariants as forms
use Rattle.mir_meaning.specs.Valid.{IsValid}
use Rattle.live_lanes.specs.declared.ask.labels.Mark.{Mark}
use Rattle.live_lanes.specs.declared.live.LiveFunc.{LiveFunc}
use Rattle.live_lanes.specs.Doing.{IsComputed}
use Rattle.live_laws.specs.Effects.Shaped.{AreClasses}
use Rattle.two_address.specs.Lowered.{lowered}
use Rattle.live_edits.specs.declared.fold.Join.{Join}
use Rattle.lowering_laws.specs.Shapes.{IsLowered}
use Rattle.join_laws.specs.Joined.{Joined}
use Rattle.spiller.specs.Slots.{Slots}
use Rattle.spiller.specs.Spilled.{IsSpilled}
use Rattle.split_kit.specs.Split.{Split}
use Rattle.split_laws.specs.Laws.{LabelsAgree, SplitInTurn}
use Rattle.run_laws.specs.Form.{IsInRun}
use Rattle.run_laws.specs.Runs.{IsReached}
use Rattle.rewriter.specs.Physical.{Assignment}
use Rattle.rewrite_laws.specs.Laws.{IsClear}
use Rattle.valid_laws.specs.Rules.{HasBlockRules, HasFlags, HasStart}
use Rattle.valid_laws.specs.Valid.{IsReady}
use Rattle.ready_laws.specs.Frames.{AreFirst, HasFrames, slot_numbers}
use Rattle.ready_laws.specs.Starts.{ListsStart}

-- One step of a run: a range is split by labels that agree on the ways between blocks, which gives no slot, or a range is spilled.
pub data IsSlotStep (t : Target) (f : Function) (s : Slots) (g : Function) (r : Slots) : Type 0 where
  splits : (v : ℕ) (ms : List Mark) → LabelsAgree t f v ms → Split t f v ms g → r.given ≡ s.given → r.taken ≡ s.taken → IsSlotStep t f s g r
  spills : (v : ℕ) (made : List (ℕ × ℕ)) → IsSpilled t f s v g r made → IsSlotStep t f s g r

-- the functions to which such steps lead, one after the other, with the slots then
pub data IsReachedWith (t : Target) (f : Function) (s : Slots) : Function → Slots → Type 0 where
  start : IsReachedWith t f s f s
  step : {g h : Function} {r q : Slots} → IsReachedWith t f s g r → IsSlotStep t g r h q → IsReachedWith t f s h q

-- they are those of a run
abbrev pub ReachedWithIsReached : Type 0
ReachedWithIsReached = (t : Target) (f g : Function) (s r : Slots) → IsReachedWith t f s g r → IsReached t f g

-- what a run keeps of what rewriting asks for
pub record KeepsReady (t : Target) (f : Function) (s : Slots) : Type 0 where
  pub run : IsInRun t f
  pub blocks : HasBlockRules t f
  pub flags : HasFlags t f
  pub frames : HasFrames t f s

-- a valid source with a block, lowered and joined, has it, with the slots of the prepared function,
abbrev pub JoinedIsReady : Type 0
JoinedIsReady =
    (t : Target) (freqs : List ℕ) (f g : Function) (js : List Join) (s : Slots) → IsValid t forms.Source f → AreClasses t f → 0 < length f.blocks
    → Joined t freqs (lowered t f) js g → AreFirst g s → KeepsReady t g s

-- and each step keeps it
abbrev pub StepKeepsReady : Type 0
StepKeepsReady = (t : Target) (f g : Function) (s r : Slots) → KeepsReady t f s → IsSlotStep t f s g r → KeepsReady t g r

-- So the function at the end of a run is ready, for slots with the numbers that were given, once its ranges are assigned without
-- clashes and its start keeps the rules of a source.
abbrev pub RunIsReady : Type 0
RunIsReady =
    (t : Target) (freqs : List ℕ) (f g h : Function) (js : List Join) (s r : Slots) (rs : Assignment) (slots : List (ℕ × ClassId))
    → IsValid t forms.Source f → AreClasses t f → 0 < length f.blocks → Joined t freqs (lowered t f) js g → AreFirst g s → IsReachedWith t g s h r
    → map (λ p. p.0) slots ≡ slot_numbers r → IsClear t h rs → HasStart t h → IsReady t h rs slots

-- splits, one after the other, keep what is asked of the start
abbrev pub SplitsKeepStart : Type 0
SplitsKeepStart = (t : Target) (f g : Function) (parted : List (ℕ × List Mark)) → IsLowered t f → SplitInTurn t f parted g → HasStart t f → HasStart t g

-- So it is for the function of a computed table, where no range is live at the start of its first block, which lists the units that are.
abbrev pub ComputedRunIsReady : Type 0
ComputedRunIsReady =
    (live : LiveFunc) (freqs : List ℕ) (f g : Function) (js : List Join) (s r : Slots) (rs : Assignment) (slots : List (ℕ × ClassId))
    → IsValid live.target forms.Source f → AreClasses live.target f → 0 < length f.blocks → Joined live.target freqs (lowered live.target f) js g → AreFirst g s
    → IsReachedWith live.target g s live.func r → map (λ p. p.0) slots ≡ slot_numbers r → IsClear live.target live.func rs
    → IsComputed live.target live.func live.table → ListsStart live.target live.func → IsReady live.target live.func rs slots

-- Without spills that is so where it is so behind lowering.
abbrev pub RunWithoutSpillsIsListed : Type 0
RunWithoutSpillsIsListed =
    (t : Target) (freqs : List ℕ) (f g h : Function) (js : List Join) (parted : List (ℕ × List Mark)) → IsValid t forms.Source f → AreClasses t f → 0 < length f.blocks
    → Joined t freqs (lowered t f) js g → SplitInTurn t g parted h → ListsStart t (lowered t f) → ListsStart t h
