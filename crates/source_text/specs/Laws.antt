-- What the key lines are in which new slots are found.
use Rattle.std.specs.Prelude.{◌≡◌, ℕ, List, ◌++◌, map, flat_map, Some}
use Rattle.target_base.specs.declared.types.Target.{Target}
use Rattle.mir_text.specs.Document.{lines}
use Rattle.source_text.specs.Frames.{Object}
use Rattle.source_text.specs.Keys.{parts_of, added}
use Rattle.source_text.specs.Slots.{line_start, line_end, slots_in}
use Rattle.source_text.specs.declared.slots.NewSlot.{NewSlot}

-- what is added to the source's key lines stands between their two parts, and nothing else is there
abbrev pub LawOfParts : Type 0
LawOfParts = (source head text : List ℕ) → added source head ≡ Some text → head ≡ (parts_of (lines source)).above ++ (text ++ (parts_of (lines source)).below)

-- the line of a slot
abbrev pub line_of : NewSlot → List ℕ
line_of s = line_start s.number ++ line_end s.bytes

-- The slots that a text declares for objects have the numbers of these in order, and the text is their lines.
pub record AreDeclared (os : List Object) (text : List ℕ) (slots : List NewSlot) : Type 0 where
  pub same : map (λ s. s.number) slots ≡ map (λ o. o.0) os
  pub is : text ≡ flat_map line_of slots

abbrev pub LawOfLines : Type 0
LawOfLines = (t : Target) (os : List Object) (text : List ℕ) (slots : List NewSlot) → slots_in t os text ≡ Some slots → AreDeclared os text slots
