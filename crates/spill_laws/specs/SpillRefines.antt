-- A function in which a range was spilled does what it did.
use Rattle.std.specs.Prelude.{◌≡◌, ℕ, false, List}
use Rattle.target_base.specs.declared.types.Target.{Target}
use Rattle.mir_func.specs.Value.{Function}
use Rattle.mir_meaning.specs.Codes.{refines}
use Rattle.lowering_laws.specs.Shapes.{IsLowered}
use Rattle.spiller.specs.Slots.{Slots, own_slot}
use Rattle.spiller.specs.Spilled.{IsSpilled, names_slot}
use Rattle.spill_laws.specs.Laws.{AreLowered}
use Rattle.spill_laws.specs.Named.{HasFixedUndefs}
use Rattle.spill_laws.specs.Refined.{SlotApart}

-- Where the range's slot is apart from it, the function after the spill does what the function did.
abbrev pub SpillRefines : Type 0
SpillRefines =
    (t : Target) (f g : Function) (slots new : Slots) (v : ℕ) (made : List (ℕ × ℕ)) → IsLowered t f → AreLowered t f → HasFixedUndefs t f → SlotApart t f v (own_slot slots v)
    → IsSpilled t f slots v g new made → refines t f g

-- So it is where no instruction names the slot.
abbrev pub SpillToNewSlotRefines : Type 0
SpillToNewSlotRefines =
    (t : Target) (f g : Function) (slots new : Slots) (v : ℕ) (made : List (ℕ × ℕ)) → IsLowered t f → AreLowered t f → HasFixedUndefs t f → names_slot (own_slot slots v) f ≡ false
    → IsSpilled t f slots v g new made → refines t f g
