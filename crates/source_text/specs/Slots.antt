-- The lines that declare new spill slots.
use Rattle.std.specs.Prelude.{ℕ, cond, nat_le, ◌+◌, ◌/◌, sum, List, [], ◌∷◌, ◌++◌, map, Option, Some, None, option_and_then, codes}
use Rattle.std.specs.Fmt.{decimal}
use Rattle.std.specs.Borrow.{Bor}
use Rattle.target_base.specs.declared.types.ClassDesc.{ClassDesc}
use Rattle.target_base.specs.declared.types.Target.{Target}
use Rattle.target_base.specs.Storage.{class_widths}
use Rattle.mir_lines.specs.Bytes.{behind_word}
use Rattle.source_text.specs.Frames.{Object}
use Rattle.source_text.specs.declared.slots.SlotSize.{SlotSize}
use Rattle.source_text.specs.declared.slots.NewSlot.{NewSlot}

-- the bytes that hold a register of a class
abbrev pub bytes_of : Target → ClassDesc → ℕ
bytes_of t d = (sum (class_widths t.units t.regs d.regs) + 7) / 8

-- the least power of two that isn't less than the size, 16 at most
abbrev pub alignment_of : ℕ → ℕ
alignment_of size =
    cond (nat_le size 1) 1 (cond (nat_le size 2) 2 (cond (nat_le size 4) 4 (cond (nat_le size 8) 8 16)))

-- The line of a slot is `  - { id: N, type: spill-slot, size: S, alignment: A }`.

abbrev pub line_start : ℕ → List ℕ
line_start n = codes "  - { id: " ++ (decimal n ++ codes ", type: spill-slot, size: ")

abbrev pub alignment_part : ℕ → List ℕ
alignment_part size = codes ", alignment: " ++ (decimal (alignment_of size) ++ codes " }\n")

abbrev pub line_end : ℕ → List ℕ
line_end size = decimal size ++ alignment_part size

-- the sizes of the target's classes, with the ends of their slots' lines
abbrev pub size_of : Target → ClassDesc → SlotSize
size_of t d = record { bytes = bytes_of t d; ending = line_end (bytes_of t d) }

abbrev pub sizes_of : Target → List SlotSize
sizes_of t = map (size_of t) t.classes

-- a size, and the text behind it
abbrev pub and_rest : ℕ × Bor (List ℕ) → ℕ × List ℕ
and_rest p = (p.0, p.1.now)

-- a size, with the text behind its line; without one what else there is
abbrev pub size_or : Option (ℕ × List ℕ) → ℕ → Option (List ℕ) → Option (ℕ × List ℕ)
size_or other bytes None = other
size_or other bytes (Some rest) = Some (bytes, rest)

-- the first of the sizes with the end of whose line the text begins, and the text behind it
abbrev pub first_size : List SlotSize → List ℕ → Option (ℕ × List ℕ)
first_size [] text = None
first_size (s ∷ ss) text = size_or (first_size ss text) s.bytes (behind_word s.ending text)

-- the same where the text begins with the line of slot n
abbrev pub declared_slot : List SlotSize → ℕ → List ℕ → Option (ℕ × List ℕ)
declared_slot sizes n text = option_and_then (first_size sizes) (behind_word (line_start n) text)

-- behind these slots, those that the text declares: one line for each object in order, of the size of some class, and no more
abbrev pub slots_behind : List NewSlot → List SlotSize → List Object → List ℕ → Option (List NewSlot)
slots_behind made sizes [] [] = Some made
slots_behind made sizes [] (b ∷ bs) = None
slots_behind made sizes (o ∷ os) text = option_and_then (λ p. slots_behind (made ++ record { number = o.0; bytes = p.0 } ∷ []) sizes os p.1) (declared_slot sizes o.0 text)

-- the slots of these objects that the text declares
abbrev pub slots_in : Target → List Object → List ℕ → Option (List NewSlot)
slots_in t os text = slots_behind [] (sizes_of t) os text
