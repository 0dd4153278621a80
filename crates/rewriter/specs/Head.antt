-- The key lines of a function with new spill slots.
use Rattle.std.specs.Prelude.{ℕ, ◌+◌, ◌/◌, sum, List, [], ◌∷◌, ◌++◌, flat_map}
use Rattle.target_base.specs.declared.types.ClassId.{ClassId}
use Rattle.target_base.specs.declared.types.Target.{Target}
use Rattle.target_base.specs.Registers.{widths_of}
use Rattle.mir_text.specs.Document.{lines}
use Rattle.source_text.specs.Keys.{parts_of}
use Rattle.source_text.specs.Slots.{line_start, line_end}

-- the bytes that hold a register of a class
abbrev pub slot_bytes : Target → ClassId → ℕ
slot_bytes t c = (sum (widths_of t c) + 7) / 8

-- the line that declares a slot for registers of a class
abbrev pub slot_line : Target → ℕ × ClassId → List ℕ
slot_line t s = line_start s.0 ++ line_end (slot_bytes t s.1)

-- Key lines with the lines of slots, where the rules put these: behind the lines of the last key `stack`, or as such a key
-- before the body line. Without slots they stay.
abbrev pub head_with_slots : Target → List (ℕ × ClassId) → List ℕ → List ℕ
head_with_slots t [] head = head
head_with_slots t (s ∷ ss) head = (parts_of (lines head)).above ++ (flat_map (slot_line t) (s ∷ ss) ++ (parts_of (lines head)).below)
