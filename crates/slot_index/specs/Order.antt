-- What the contracts of `Slots` cite. The list is seen as its pairs (number, id), in order.
use Rattle.std.specs.Prelude.{ℕ, List, [], ◌∷◌, Option, None, Some, length, ◌<◌, ◌+◌, ◌↔◌, ◌==◌, eqb, if◌then◌else◌}
use Rattle.std.specs.Ordering.{nat_cmp}
use Rattle.std.specs.List.{position_or_len, insert, IsDistinct, AllByRecursion}
use Rattle.std.specs.List.Sorted.{IsStrictlySortedBy}
use Rattle.std.specs.Map.{keys_of, values_of}

-- the ids, in order
abbrev pub ids : List (ℕ × ℕ) → List ℕ
ids slots = values_of slots

-- the place of an id in a list of ids, or the list's length
abbrev pub place : ℕ → List ℕ → ℕ
place id xs = position_or_len (λ x. x == id) xs

-- the id is in the list
abbrev pub Has : List (ℕ × ℕ) → ℕ → Type 0
Has slots id = place id (ids slots) < length (ids slots)

-- the number of an id, and 0 for one that isn't in the list
abbrev pub number_of : List (ℕ × ℕ) → ℕ → ℕ
number_of [] id = 0
number_of (s ∷ slots) id = if s.1 == id then s.0 else number_of slots id

-- the place behind an id, or the first place
abbrev pub place_after : Option ℕ → List ℕ → ℕ
place_after None xs = 0
place_after (Some id) xs = place id xs + 1

-- a list of ids with one more, behind another or first
abbrev pub put_after : Option ℕ → ℕ → List ℕ → List ℕ
put_after after id xs = insert xs (place_after after xs) id

-- no id stands twice, and the numbers are above 0 and rise along the list
pub record IsNumbered (slots : List (ℕ × ℕ)) : Type 0 where
  pub distinct : IsDistinct eqb (ids slots)
  pub rising : IsStrictlySortedBy nat_cmp (keys_of slots)
  pub positive : AllByRecursion (λ s. 0 < s.0) slots

-- of two ids in the list, the one with the smaller number stands before the other
abbrev pub NumbersTellOrder : List (ℕ × ℕ) → Type 0
NumbersTellOrder slots = (a b : ℕ) → Has slots a → Has slots b → (number_of slots a < number_of slots b) ↔ (place a (ids slots) < place b (ids slots))
