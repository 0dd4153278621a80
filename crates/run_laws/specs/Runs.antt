-- A run: a valid source is lowered, its copies are joined, and then its ranges are split and spilled.
use Rattle.std.specs.Prelude.{◌<◌, ℕ, length, List}
use Rattle.target_base.specs.declared.types.Target.{Target}
use Rattle.mir_func.specs.Value.{Function}
use Rattle.mir_meaning.specs.declared.Form.TheVariants as forms
use Rattle.mir_meaning.specs.Codes.{refines}
use Rattle.mir_meaning.specs.Valid.{IsValid}
use Rattle.live_lanes.specs.declared.ask.labels.Mark.{Mark}
use Rattle.live_laws.specs.Effects.Shaped.{AreClasses}
use Rattle.two_address.specs.Lowered.{lowered}
use Rattle.live_edits.specs.declared.fold.Join.{Join}
use Rattle.join_laws.specs.Joined.{Joined}
use Rattle.spiller.specs.Slots.{Slots}
use Rattle.spiller.specs.Spilled.{IsSpilled}
use Rattle.split_kit.specs.Split.{Split}
use Rattle.split_laws.specs.Laws.{LabelsAgree, SplitInTurn}
use Rattle.run_laws.specs.Form.{IsInRun}

-- One step of a run: a range is split by labels that agree on the ways between blocks, or a range is spilled, whatever slots
-- ranges have by then.
pub data IsStep (t : Target) (f g : Function) : Type 0 where
  splits : (v : ℕ) (ms : List Mark) → LabelsAgree t f v ms → Split t f v ms g → IsStep t f g
  spills : (slots new : Slots) (v : ℕ) (made : List (ℕ × ℕ)) → IsSpilled t f slots v g new made → IsStep t f g

-- the functions to which such steps lead, one after the other
pub data IsReached (t : Target) (f : Function) : Function → Type 0 where
  start : IsReached t f f
  step : {g h : Function} → IsReached t f g → IsStep t g h → IsReached t f h

-- A valid source, lowered, is the function of a run. Its classes are the target's, and it has a block.
abbrev pub LoweredIsInRun : Type 0
LoweredIsInRun = (t : Target) (f : Function) → IsValid t forms.Source f → AreClasses t f → 0 < length f.blocks → IsInRun t (lowered t f)

-- The function of a run is one behind all joins, one after the other,
abbrev pub JoinedIsInRun : Type 0
JoinedIsInRun = (t : Target) (freqs : List ℕ) (f g : Function) (js : List Join) → IsInRun t f → Joined t freqs f js g → IsInRun t g

-- and behind each step.
abbrev pub StepIsInRun : Type 0
StepIsInRun = (t : Target) (f g : Function) → IsInRun t f → IsStep t f g → IsInRun t g

-- So a valid source, lowered, with its copies joined and then behind any number of steps, is the function of a run.
abbrev pub RunKeepsForm : Type 0
RunKeepsForm =
    (t : Target) (freqs : List ℕ) (f g h : Function) (js : List Join) → IsValid t forms.Source f → AreClasses t f → 0 < length f.blocks
    → Joined t freqs (lowered t f) js g → IsReached t g h → IsInRun t h

-- Where no step is a spill, it does what the source does.
abbrev pub RunWithoutSpillsRefines : Type 0
RunWithoutSpillsRefines =
    (t : Target) (freqs : List ℕ) (f g h : Function) (js : List Join) (splits : List (ℕ × List Mark)) → IsValid t forms.Source f → AreClasses t f → 0 < length f.blocks
    → Joined t freqs (lowered t f) js g → SplitInTurn t g splits h → refines t f h
