-- Rows of which the first ask for facts, and families put together.
use Rattle.std.specs.Prelude.{ℕ, zero, suc, Bool, true, false, cond, List, [], ◌∷◌, ◌++◌, map}
use Rattle.meaning.specs.declared.types.Row.{Row}
use Rattle.meaning.specs.declared.types.Row.TheVariants.{BothCounted}
use Rattle.meaning.specs.Agree.{Family, facts_at}
use Rattle.mir_meaning.specs.Agreement.{without_reads}

-- the row, of which a pair asks for what it reads only where the test says so
abbrev pub asking : Bool → Row → Row
asking true row = row
asking false row = without_reads row

-- the rows, of which those from a place on ask for no facts
abbrev pub asked_to : ℕ → List Row → List Row
asked_to zero rows = map without_reads rows
asked_to (suc n) [] = []
asked_to (suc n) (row ∷ rows) = row ∷ asked_to n rows

-- the row is a pair of counted instructions
abbrev pub is_pair : Row → Bool
is_pair (BothCounted r reads reads' ws ws' target exits) = true
is_pair row = false

-- how many are
abbrev pub counted_rows : List Row → ℕ
counted_rows [] = 0
counted_rows (row ∷ rows) = cond (is_pair row) (suc (counted_rows rows)) (counted_rows rows)

-- at the start of each of these blocks the facts of both families
abbrev pub joined_at : Family → Family → Family → Family
joined_at a b [] = []
joined_at a b (e ∷ es) = (e.0, facts_at a e.0 ++ facts_at b e.0) ∷ joined_at a b es

abbrev pub joined : Family → Family → Family
joined a b = joined_at a b (a ++ b)
