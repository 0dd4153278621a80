-- How the list is kept: beside the map from numbers to ids, the number of each id.
use Rattle.std.specs.Prelude.{ℕ, List, ◌≡◌, slice_index}
use Rattle.slot_index.specs.Order.{IsNumbered, number_of}

pub record IsIndexed (number_by_id : List ℕ) (slots : List (ℕ × ℕ)) : Type 0 where
  pub numbered : IsNumbered slots
  pub indexed : (id : ℕ) → slice_index number_by_id id ≡ number_of slots id
