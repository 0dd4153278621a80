-- New numbers: one for a new id between two neighbours, and new ones for all ids.
use Rattle.std.specs.Prelude.{ℕ, List, [], ◌∷◌, ◌+◌, ◌<◌, Option, None, Some, slice_get, slice_set, IfSome}
use Rattle.std.specs.List.{fold}
use Rattle.slot_index.specs.Order.{ids, number_of, place_after}

-- the number of an id, and 0 where none is given
abbrev pub low_end : Option ℕ → List (ℕ × ℕ) → ℕ
low_end None slots = 0
low_end (Some id) slots = number_of slots id

-- the number is above that of the slot before the place behind `after`, and below that of the slot at it
abbrev pub IsRoom : Option ℕ → List (ℕ × ℕ) → ℕ → Type 0
IsRoom after slots number = (low_end after slots < number) × IfSome (slice_get slots (place_after after (ids slots))) (λ s. number < s.0)

-- the ids with numbers at a distance from one another, above `last`
abbrev pub spaced : ℕ → ℕ → List ℕ → List (ℕ × ℕ)
spaced distance last [] = []
spaced distance last (id ∷ xs) = (last + distance, id) ∷ spaced distance (last + distance) xs

-- the numbers by id, after the number of each slot is written at its id
abbrev pub written : List (ℕ × ℕ) → List ℕ → List ℕ
written slots numbers = fold (λ ns s. slice_set ns s.1 s.0) numbers slots
