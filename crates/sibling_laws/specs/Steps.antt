-- A run with the originals of its ranges: each range stays apart from its slot, where no reload of the target has an
-- early-clobber definition.
use Rattle.std.specs.Prelude.{◌≡◌, ◌+◌, ◌<◌, ℕ, length, List}
use Rattle.target_base.specs.declared.types.Target.{Target}
use Rattle.mir_func.specs.Value.{Function}
use Rattle.mir_meaning.specs.Registers.{numbers}
use Rattle.live_lanes.specs.declared.ask.labels.Mark.{Mark}
use Rattle.spiller.specs.Slots.{Slots, own_slot}
use Rattle.spiller.specs.Spilled.{IsSpilled}
use Rattle.spill_laws.specs.Refined.{SlotApart}
use Rattle.split_kit.specs.Split.{Split, greatest_label}
use Rattle.split_laws.specs.Laws.{LabelsAgree}
use Rattle.run_laws.specs.Form.{IsInRun}
use Rattle.clear_laws.specs.Spills.{HasEarlyReload}
use Rattle.ready_laws.specs.Frames.{AreFirst, HasNoSlots}
use Rattle.ready_laws.specs.Runs.{IsReachedWith, IsSlotStep}
use Rattle.sibling_laws.specs.Siblings.{AreSiblingsApart, KnowsOriginals}
use Rattle.sibling_laws.specs.Splits.{with_parts}

-- One step of a run: a range of the function is split by labels that agree on the ways between blocks, and its parts have its
-- original; or a range of the function is spilled.
pub data IsOriginalsStep (t : Target) (f : Function) (s : Slots) (g : Function) (r : Slots) : Type 0 where
  splits : (v : ℕ) (ms : List Mark) → v < length f.classes → LabelsAgree t f v ms → Split t f v ms g → r ≡ with_parts s v (greatest_label ms + 1) → IsOriginalsStep t f s g r
  spills : (v : ℕ) (made : List (ℕ × ℕ)) → v < length f.classes → IsSpilled t f s v g r made → IsOriginalsStep t f s g r

-- the functions to which such steps lead, one after the other, with the slots and originals then
pub data IsReachedFrom (t : Target) (f : Function) (s : Slots) : Function → Slots → Type 0 where
  start : IsReachedFrom t f s f s
  step : {g h : Function} {r q : Slots} → IsReachedFrom t f s g r → IsOriginalsStep t g r h q → IsReachedFrom t f s h q

-- each is a step of a run with slots,
abbrev pub OriginalsStepIsSlotStep : Type 0
OriginalsStepIsSlotStep = (t : Target) (f g : Function) (s r : Slots) → IsOriginalsStep t f s g r → IsSlotStep t f s g r

-- so that they lead where such a run leads
abbrev pub ReachedFromIsReachedWith : Type 0
ReachedFromIsReachedWith = (t : Target) (f g : Function) (s r : Slots) → IsReachedFrom t f s g r → IsReachedWith t f s g r

-- Where no reload has an early-clobber definition, steps keep siblings apart,
abbrev pub RunKeepsSiblings : Type 0
RunKeepsSiblings =
    (t : Target) (f g : Function) (s r : Slots) → (HasEarlyReload t → ⊥) → IsInRun t f → KnowsOriginals f s → AreSiblingsApart t f s → IsReachedFrom t f s g r
    → IsInRun t g × KnowsOriginals g r × AreSiblingsApart t g r

-- so that in a run each range is apart from the slot that it has, or that it would get.
abbrev pub RunKeepsSlotApart : Type 0
RunKeepsSlotApart =
    (t : Target) (f g : Function) (s r : Slots) (v : ℕ) → (HasEarlyReload t → ⊥) → IsInRun t f → HasNoSlots t f → AreFirst f s → s.originals ≡ numbers 0 (length f.classes)
    → IsReachedFrom t f s g r → v < length g.classes → SlotApart t g v (own_slot r v)
