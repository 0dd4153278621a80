-- Liveness of numbered lanes is that of the lanes.
use Rattle.std.specs.Prelude.{◌≡◌, ℕ, Bool, List, Some}
use Rattle.meaning.specs.declared.types.Lane.{Lane}
use Rattle.meaning.specs.Code.{Code as Places}
use Rattle.meaning.specs.Live.{Live as LivePlace}
use Rattle.mir_meaning.specs.Paths.{Step, Code, Entry, Live}
use Rattle.mir_meaning.specs.Stands.{Tags, At, IsCodeOf}

-- Where steps stand for a place, a lane is live there with its number, and a number with a lane. A slot's lane is one lane at all widths.
abbrev pub StandsLaw : Type 0
StandsLaw =
    (reserved : Lane → Bool) (tag : Tags) (number : ℕ → ℕ) (places : Places) (code : Code) → IsCodeOf reserved tag number places code
    → (b : ℕ) (p : Places) (ss : List Step) → At reserved tag number places code b p ss
    → ((l : Lane) → LivePlace reserved places p l → (n : ℕ) × (tag l ≡ Some n) × Live code b (Entry ss) n)
    × ((n : ℕ) → Live code b (Entry ss) n → (l : Lane) × (tag l ≡ Some n) × LivePlace reserved places p l)
