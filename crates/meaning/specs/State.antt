-- What lanes hold, and what writes make of it.
use Rattle.std.specs.Prelude.{ℕ, zero, suc, List, [], ◌∷◌, map, Some, None}
use Rattle.meaning.specs.declared.types.Lane.{Lane}
use Rattle.meaning.specs.declared.types.Source.{Source}
use Rattle.meaning.specs.declared.types.Source.TheVariants.{FromLane, Undef, Bits}
use Rattle.meaning.specs.declared.types.Fill.{Fill}
use Rattle.meaning.specs.declared.types.Fill.TheVariants.{Moved, Computed}
use Rattle.meaning.specs.Lanes.{Writes, Reads, filled}
use Rattle.meaning.specs.Environment.{Environment, Value, bits_of}

abbrev pub State : Type 0
State = Lane → Value

abbrev pub fetch : Environment → State → Source → Value
fetch env state (FromLane l) = state l
fetch env state Undef = None
fetch env state (Bits c low width) = Some (bits_of env c low width)

-- what isn't there is Undef
abbrev pub nth : List Value → ℕ → Value
nth [] n = None
nth (v ∷ vs) zero = v
nth (v ∷ vs) (suc n) = nth vs n

abbrev pub fill : Environment → List Value → State → Fill → Value
fill env results state (Moved s) = fetch env state s
fill env results state (Computed i) = nth results i

abbrev pub written : Environment → List Value → Writes → State → State
written env results ws state l = fill env results state (filled ws l)

abbrev pub values : Environment → State → Reads → List (List Value)
values env state reads = map (λ ss. map (fetch env state) ss) reads
