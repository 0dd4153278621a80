-- What is live where a function begins, along a run with spills.
use Rattle.std.specs.Prelude.{◌≡◌, ◌<◌, ℕ, length, map, List}
use Rattle.target_base.specs.declared.types.ClassId.{ClassId}
use Rattle.target_base.specs.declared.types.Target.{Target}
use Rattle.mir_func.specs.Value.{Function}
use Rattle.mir_meaning.specs.declared.Form.TheVariants as forms
use Rattle.mir_meaning.specs.Valid.{IsValid}
use Rattle.live_lanes.specs.declared.live.LiveFunc.{LiveFunc}
use Rattle.live_lanes.specs.Doing.{IsComputed}
use Rattle.live_laws.specs.Effects.Shaped.{AreClasses}
use Rattle.two_address.specs.Lowered.{lowered}
use Rattle.live_edits.specs.declared.fold.Join.{Join}
use Rattle.join_laws.specs.Joined.{Joined}
use Rattle.spiller.specs.Slots.{Slots, own_slot}
use Rattle.spiller.specs.Spilled.{IsSpilled}
use Rattle.spill_laws.specs.Refined.{SlotApart}
use Rattle.rewriter.specs.Physical.{Assignment}
use Rattle.rewrite_laws.specs.Laws.{IsClear}
use Rattle.clear_laws.specs.Spills.{KeepsStarts}
use Rattle.valid_laws.specs.Valid.{IsReady}
use Rattle.ready_laws.specs.Frames.{AreFirst, slot_numbers}
use Rattle.ready_laws.specs.Runs.{IsReachedWith, IsSlotStep, spills, splits}
use Rattle.ready_laws.specs.Starts.{ListsStart}

-- where a spill keeps starts so, no range is live at the start then, and the first block lists the units that are
abbrev pub SpillKeepsListed : Type 0
SpillKeepsListed =
    (t : Target) (f g : Function) (slots new : Slots) (v : ℕ) (made : List (ℕ × ℕ)) → IsSpilled t f slots v g new made → KeepsStarts t f g → ListsStart t f → ListsStart t g

-- where the step is a spill, the slot is apart from the range
abbrev pub SpillsApart : {t : Target} {f : Function} {s : Slots} {g : Function} {r : Slots} → IsSlotStep t f s g r → Type 0
SpillsApart (splits v ms meet z given taken) = Unit {0}
SpillsApart {t = t} {f = f} {s = s} (spills v made z) = SlotApart t f v (own_slot s v)

-- the functions to which such steps lead, one after the other, with the slots then
pub data IsReachedApart (t : Target) (f : Function) (s : Slots) : Function → Slots → Type 0 where
  start : IsReachedApart t f s f s
  step : {g h : Function} {r q : Slots} → IsReachedApart t f s g r → (z : IsSlotStep t g r h q) → SpillsApart z → IsReachedApart t f s h q

-- they are those of a run
abbrev pub ApartIsReached : Type 0
ApartIsReached = (t : Target) (f g : Function) (s r : Slots) → IsReachedApart t f s g r → IsReachedWith t f s g r

-- So at the start of the function at the end of a run no range is live, and its first block lists the units that are.
abbrev pub RunIsListed : Type 0
RunIsListed =
    (t : Target) (freqs : List ℕ) (f g h : Function) (js : List Join) (s r : Slots) → IsValid t forms.Source f → AreClasses t f → 0 < length f.blocks
    → Joined t freqs (lowered t f) js g → IsReachedApart t g s h r → ListsStart t h

-- Then the function of a computed table at the end of a run is ready to be rewritten.
abbrev pub ApartRunIsReady : Type 0
ApartRunIsReady =
    (live : LiveFunc) (freqs : List ℕ) (f g : Function) (js : List Join) (s r : Slots) (rs : Assignment) (slots : List (ℕ × ClassId))
    → IsValid live.target forms.Source f → AreClasses live.target f → 0 < length f.blocks → Joined live.target freqs (lowered live.target f) js g → AreFirst g s
    → IsReachedApart live.target g s live.func r → map (λ p. p.0) slots ≡ slot_numbers r → IsClear live.target live.func rs
    → IsComputed live.target live.func live.table → IsReady live.target live.func rs slots
