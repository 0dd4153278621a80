-- Slots that were given, each with its original, its number and a class.
use Rattle.std.specs.Prelude.{ℕ, List, [], ◌∷◌, ◌++◌, map, Some, None}
use Rattle.target_base.specs.declared.types.ClassId.{ClassId}
use Rattle.target_base.specs.Numbers.{class_number}
use Rattle.mir_func.specs.Value.{Function}
use Rattle.mir_func.specs.Binding.{class_of}
use Rattle.spiller.specs.declared.slot_map.RangeSlot.{RangeSlot}
use Rattle.spiller.specs.Slots.{Slots, original_of, slot_of}

-- the original of each, with its number
abbrev pub pairs_of : List RangeSlot → List (ℕ × ℕ)
pairs_of given = map (λ s. (s.original, s.number)) given

-- the number of each, with its class
abbrev pub numbers_with_classes : List RangeSlot → List (ℕ × ClassId)
numbers_with_classes given = map (λ s. (s.number, s.class)) given

-- the class of the slot of an original
abbrev pub slot_class : Function → ℕ → ClassId
slot_class f o = elim (class_of f o) [ None ↦ class_number 0 | Some k ↦ k ]

-- the classes of the slots once a range's original has its slot: where it gets one, its class comes behind
abbrev pub with_class : Function → Slots → ℕ → List ClassId → List ClassId
with_class f s v classes = elim (slot_of s v) [ None ↦ classes ++ slot_class f (original_of s v) ∷ [] | Some n ↦ classes ]
