-- Slots as the calls keep them.
use Rattle.std.specs.Prelude.{ℕ, List, map}
use Rattle.target_base.specs.declared.types.ClassId.{ClassId}
use Rattle.spiller.specs.declared.slot_map.SlotMap.{SlotMap}
use Rattle.spiller.specs.Slots.{Slots}
use Rattle.spiller.specs.RangeSlots.{pairs_of, numbers_with_classes}

-- what a map knows
abbrev pub slots_of : SlotMap → Slots
slots_of m = record { originals = m.originals.items; given = pairs_of m.given.items; taken = m.taken.keys }

-- the number of each slot that was given, with the class of its original, in order
abbrev pub given_slots : SlotMap → List (ℕ × ClassId)
given_slots m = numbers_with_classes m.given.items

-- the classes alone
abbrev pub slot_classes : SlotMap → List ClassId
slot_classes m = map (λ s. s.class) m.given.items
