-- Spill slots: the ranges that come from one range of the prepared function, their original, share one slot.
use Rattle.std.specs.Prelude.{ℕ, suc, ◌==◌, ◌<◌, not, cond, List, [], ◌∷◌, ◌++◌, map, flat_map, filter_map, length, find, Option, Some, None, option_map, slice_get}
use Rattle.mir_func.specs.Value.{Function}
use Rattle.mir_func.specs.Binding.{as_slot}
use Rattle.mir_meaning.specs.Registers.{numbers, has_number}

-- What a run knows of slots: the original of each range, by its number; the originals that have slots, each with
-- the number of its slot, in the order in which these were given; and the numbers of frame objects that the
-- prepared function declares or names.
pub record Slots : Type 0 where
  pub originals : List ℕ
  pub given : List (ℕ × ℕ)
  pub taken : List ℕ

-- the numbers of frame objects that a function declares or names
abbrev pub named_slots : Function → List ℕ
named_slots f = map (λ p. p.0) f.frames ++ flat_map (λ b. flat_map (λ i. filter_map as_slot i.operands) b.instrs) f.blocks

-- the range that a range comes from; itself, where none is known
abbrev pub original_of : Slots → ℕ → ℕ
original_of s v = elim (slice_get s.originals v) [ None ↦ v | Some o ↦ o ]

-- the slot of an original among those that were given
abbrev pub slot_among : List (ℕ × ℕ) → ℕ → Option ℕ
slot_among given o = option_map (λ p. p.1) (find (λ p. p.0 == o) given)

-- the numbers of the slots that were given
abbrev pub given_numbers : List (ℕ × ℕ) → List ℕ
given_numbers given = map (λ p. p.1) given

-- the slot of a range: that of its original, where it has one
abbrev pub slot_of : Slots → ℕ → Option ℕ
slot_of s v = slot_among s.given (original_of s v)

-- the least number that isn't among these
abbrev pub least_free : List ℕ → ℕ
least_free ns = elim (find (λ n. not (has_number ns n)) (numbers 0 (suc (length ns)))) [ None ↦ length ns | Some n ↦ n ]

-- the slot that is given next
abbrev pub next_slot : Slots → ℕ
next_slot s = least_free (s.taken ++ given_numbers s.given)

-- a slot with a number of 32 bits can be given
abbrev pub HasFreeSlot : Slots → Type 0
HasFreeSlot s = next_slot s < 4294967296

-- the slot that a range has, or that it gets once it is stored or reloaded
abbrev pub own_slot : Slots → ℕ → ℕ
own_slot s v = elim (slot_of s v) [ None ↦ next_slot s | Some n ↦ n ]

-- the range's original has its slot from now on
abbrev pub with_slot : Slots → ℕ → Slots
with_slot s v = elim (slot_of s v) [ None ↦ record s { given = s.given ++ ((original_of s v, own_slot s v) ∷ []) } | Some n ↦ s ]

-- so many new ranges, each its own original
abbrev pub with_ranges : Slots → ℕ → Slots
with_ranges s n = record s { originals = s.originals ++ numbers (length s.originals) n }

-- the next range comes from this original; one that isn't the next changes nothing
abbrev pub with_original : Slots → ℕ → ℕ → Slots
with_original s v original = cond (v == length s.originals) (record s { originals = s.originals ++ original ∷ [] }) s
