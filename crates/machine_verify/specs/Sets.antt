-- Sets of numbers.
use Rattle.std.specs.Prelude.{◌≡◌, ◌&&◌, ℕ, Bool, List, nat_eq}
use Rattle.std.specs.List.{list_any}
use Rattle.std.specs.Ordering.{nat_cmp}
use Rattle.std.specs.BTreeSet.{contains_by}
use Rattle.mir_func.specs.Value.{Function}
use Rattle.mir_meaning.specs.Registers.{has_number}
use Rattle.mir_meaning.specs.Rules.{is_spill_slot}
use Rattle.machine_verify.specs.declared.numbers.NumberSet.{NumberSet}

-- the number is in the set
abbrev pub has : NumberSet → ℕ → Bool
has s n = contains_by (nat_cmp n) s.set

-- the set has the numbers of the list
abbrev pub Holds : NumberSet → List ℕ → Type 0
Holds s ns = (n : ℕ) → has s n ≡ has_number ns n

-- the set has the numbers of the spill slots among these frame objects
abbrev pub HoldsSlotsAmong : NumberSet → List (ℕ × Bool) → Type 0
HoldsSlotsAmong s frames = (n : ℕ) → has s n ≡ list_any (λ o. nat_eq o.0 n && o.1) frames

-- the set has the numbers of the function's spill slots
abbrev pub HoldsSlots : NumberSet → Function → Type 0
HoldsSlots s f = (n : ℕ) → has s n ≡ is_spill_slot f n
