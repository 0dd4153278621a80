-- What must be known before an instruction, so that facts are known behind it.
use Rattle.std.specs.Prelude.{◌≡◌, ℕ, Bool, true, false, cond, ◌&&◌, ◌||◌, nat_eq, List, ◌∷◌, Option, Some, None}
use Rattle.meaning.specs.declared.types.Constant.{Constant}
use Rattle.meaning.specs.declared.types.Lane.{Lane}
use Rattle.meaning.specs.declared.types.Source.{Source}
use Rattle.meaning.specs.declared.types.Source.TheVariants.{FromLane, Undef, Bits}
use Rattle.meaning.specs.declared.types.Fill.{Fill}
use Rattle.meaning.specs.declared.types.Fill.TheVariants.{Moved, Computed}
use Rattle.meaning.specs.declared.types.Row.{Row}
use Rattle.meaning.specs.declared.types.Row.TheVariants.{BothStart, BothEnd, FirstSilent, SecondSilent, BothCounted}
use Rattle.meaning.specs.declared.types.EdgePair.{EdgePair}
use Rattle.meaning.specs.Lanes.{Writes, settled, through}
use Rattle.meaning.specs.Facts.{Fact, Facts, Knowledge, all_known, everything, known_first, known_second, known_both, operands_known}
use Rattle.meaning.specs.Agree.{Family, rows_hold, target_holds, ways_hold}

-- what holds of all knowledge: of Undef everything is known, and of a constant that it equals itself
pub record IsLawful (k : Knowledge) : Type 0 where
  pub undef : (t : Source) → k Undef t ≡ true
  pub constant : (c : Constant) (low width : ℕ) → k (Bits c low width) (Bits c low width) ≡ true

-- where the needs are known, the test holds
abbrev pub Lead : Facts → (Knowledge → Bool) → Type 0
Lead needs test = (k : Knowledge) → IsLawful k → all_known k needs ≡ true → test k ≡ true

-- Nothing more is asked than the test: where it holds, the answer is yes and the needs are known.
abbrev pub Least : (Knowledge → Bool) → Bool → Facts → Type 0
Least test answer needs = (k : Knowledge) → IsLawful k → test k ≡ true → (answer ≡ true) × (all_known k needs ≡ true)

-- where the needs are known before the rows, the rows hold
abbrev pub Suffice : Family → List Row → Facts → Type 0
Suffice family rows needs = Lead needs (rows_hold family rows)

-- the number of a result
abbrev pub result_of : Fill → Option ℕ
result_of (Moved s) = None
result_of (Computed i) = Some i

-- both are results, of one number
abbrev pub one_number : Option ℕ → Option ℕ → Bool
one_number (Some i) (Some j) = nat_eq i j
one_number _ _ = false

abbrev pub is_moved : Option ℕ → Bool
is_moved None = true
is_moved (Some i) = false

-- where a lane had its value: where it is, unless it was written
abbrev pub or_lane : Option Source → Lane → Source
or_lane None l = FromLane l
or_lane (Some s) l = s

-- a fact as it stood before the writes of the first function, and before those of the second
abbrev pub before_first : Writes → Fact → Fact
before_first ws f = (settled (through ws f.0), f.1)

abbrev pub before_second : Writes → Fact → Fact
before_second vs f = (f.0, settled (through vs f.1))

-- no result of the first function alone is asked for
abbrev pub fits_first : Writes → Fact → Bool
fits_first ws f = is_moved (result_of (through ws f.0))

-- before a counted instruction of both: of lanes that get one result nothing is asked
abbrev pub before_both : Writes → Writes → Fact → Fact
before_both ws vs f = cond (one_number (result_of (through ws f.0)) (result_of (through vs f.1))) (Undef, Undef) (settled (through ws f.0), settled (through vs f.1))

abbrev pub fits_both : Writes → Writes → Fact → Bool
fits_both ws vs f = one_number (result_of (through ws f.0)) (result_of (through vs f.1)) || is_moved (result_of (through ws f.0))

-- In place of a fact behind an instruction this one is asked in front of it; with none, the fact can't be known there. K
-- is what is known behind it, from what is known in front.
abbrev pub IsInstead : (Knowledge → Knowledge) → Fact → Option Fact → Type 0
IsInstead K f None = (k : Knowledge) → K k f.0 f.1 ≡ false
IsInstead K f (Some g) = (k : Knowledge) → IsLawful k → K k f.0 f.1 ≡ true → k g.0 g.1 ≡ true

-- whoever knows all of these facts knows this one
abbrev pub Has : Facts → Fact → Type 0
Has facts f = (k : Knowledge) → all_known k facts ≡ true → k f.0 f.1 ≡ true

-- with the new needs known, the test holds and the old needs are known
abbrev pub Adds : Facts → (Knowledge → Bool) → Facts → Type 0
Adds old test new = Lead new (λ k. test k && all_known k old)

-- needs before a row, from needs behind it
abbrev pub Carry : Family → Row → Facts → Facts → Type 0
Carry family row old new = (rows : List Row) → Suffice family rows old → Suffice family (row ∷ rows) new

-- what is known where control falls out of a block's end: everything, where it doesn't
abbrev pub behind_falls : Option (Writes × Writes) → Knowledge → Knowledge
behind_falls None k = everything
behind_falls (Some e) k = known_second e.1 (known_first e.0 k)

-- needs before the writes of a counted pair, from needs behind it
abbrev pub Leave : Family → Writes → Writes → Option EdgePair → List EdgePair → Facts → Facts → Type 0
Leave family ws vs target exits old new =
    Lead new (λ k. target_holds family (known_both ws vs k) target && (ways_hold family (known_both ws vs k) exits && all_known (known_both ws vs k) old))

-- the same as a test
abbrev pub writes_ask : Family → Writes → Writes → Option EdgePair → List EdgePair → Facts → Knowledge → Bool
writes_ask family ws vs target exits old k = target_holds family (known_both ws vs k) target && (ways_hold family (known_both ws vs k) exits && all_known (known_both ws vs k) old)

-- what a row asks, with the needs behind it; what the start of a block asks isn't said here
abbrev pub row_asks : Family → Row → Facts → Knowledge → Bool
row_asks family (BothStart n) old k = false
row_asks family (BothEnd falls exits) old k = ways_hold family k exits && all_known (behind_falls falls k) old
row_asks family (FirstSilent reads ws) old k = all_known (known_first ws k) old
row_asks family (SecondSilent reads vs) old k = all_known (known_second vs k) old
row_asks family (BothCounted r reads reads' ws vs target exits) old k = operands_known k reads reads' && writes_ask family ws vs target exits old k
