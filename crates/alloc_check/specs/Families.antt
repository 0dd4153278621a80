-- Families of facts that are searched.
use Rattle.std.specs.Prelude.{◌≡◌, ℕ, Bool, true, false, nat_eq, List, ◌∷◌, Option, Some, None}
use Rattle.target_base.specs.declared.types.Target.{Target}
use Rattle.meaning.specs.declared.types.Row.{Row}
use Rattle.meaning.specs.declared.types.Row.TheVariants.{BothStart}
use Rattle.meaning.specs.Facts.{Facts, Knowledge, all_known, known, known_at_start}
use Rattle.meaning.specs.Agree.{Family, facts_at, rows_hold}
use Rattle.mir_func.specs.Value.{Function}
use Rattle.mir_meaning.specs.Codes.{given_of}
use Rattle.laws.proofs.Closed.{IsClosed}
use Rattle.alloc_check.specs.Needs.{Suffice}
use Rattle.alloc_check.specs.Cells.{asked}
use Rattle.alloc_check.specs.declared.settle.Pass.{Pass}

-- the row isn't the start of a block
abbrev pub is_inside : Row → Bool
is_inside (BothStart n) = false
is_inside _ = true

-- each fact of the first is known by the second at the start of its block
abbrev pub IsBelow : Family → Family → Type 0
IsBelow a b = (n : ℕ) → all_known (known (facts_at b n)) (facts_at a n) ≡ true

-- needs before rows that are known wherever the rows hold with this family
abbrev pub Necessary : Family → List Row → Facts → Type 0
Necessary family rows needs = (k : Knowledge) → IsClosed k → rows_hold family rows k ≡ true → all_known k needs ≡ true

-- the family is below each with which the rows hold
abbrev pub IsLeast : List Row → Family → Type 0
IsLeast rows a = (family : Family) (k : Knowledge) → IsClosed k → rows_hold family rows k ≡ true → IsBelow a family

-- What a pass over rows says that began with the first family and has come to the second: where it is settled, what it
-- needs before the rows is enough for them to hold with the second. Each family above the first with which they hold knows
-- these needs, and is above the second.
pub record IsPassed (first second : Family) (rows : List Row) (p : Pass) : Type 0 where
  pub enough : p.settled ≡ true → Suffice second rows (asked p.needs)
  pub needed : (family : Family) → IsBelow first family → (k : Knowledge) → IsClosed k → rows_hold family rows k ≡ true → (all_known k (asked p.needs) ≡ true) × IsBelow second family

-- the rows hold with no family above this one
abbrev pub NeverAbove : Family → List Row → Type 0
NeverAbove a rows = (family : Family) → IsBelow a family → (k : Knowledge) → IsClosed k → rows_hold family rows k ≡ true → ⊥

-- a pass over one row more, before the others; with a false answer the rows can't hold
abbrev pub MeetsRow : Family → Row → Pass → Bool → Family → Pass → Type 0
MeetsRow a row old true b new = (first : Family) (rows : List Row) → IsPassed first a rows old → IsPassed first b (row ∷ rows) new
MeetsRow a row old false b new = (first : Family) (rows : List Row) → IsPassed first a rows old → NeverAbove first (row ∷ rows)

-- the whole pass
abbrev pub Passes : Family → List Row → Family → Option Pass → Type 0
Passes a rows b None = NeverAbove a rows
Passes a rows b (Some p) = IsPassed a b rows p

-- whoever knows the facts of the old family at a start, and those that are put there, knows those of the new one
abbrev pub PutsAt : Family → ℕ → Facts → Family → Type 0
PutsAt old n facts new = (k : Knowledge) (m : ℕ) → all_known k (facts_at old m) ≡ true → (nat_eq n m ≡ true → all_known k facts ≡ true) → all_known k (facts_at new m) ≡ true

-- some family gives the rows what they need, from what is known at the start of two functions
abbrev pub HoldsWith : Target → Function → Function → List Row → Type 0
HoldsWith t f g rows = (family : Family) × (rows_hold family rows (known_at_start (given_of t f) (given_of t g)) ≡ true)

-- the answer is yes just where some family does
abbrev pub Decides : Target → Function → Function → List Row → Bool → Type 0
Decides t f g rows true = HoldsWith t f g rows
Decides t f g rows false = HoldsWith t f g rows → ⊥
