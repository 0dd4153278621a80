-- An operation does at least as much where more is defined: of its values, and of the bytes stored before.
use Rattle.std.specs.Prelude.{◌≡◌, ℕ, true, List, [], ◌∷◌}
use Rattle.meaning.specs.declared.types.Rest.{Rest}
use Rattle.meaning.specs.Environment.{Environment, Value}
use Rattle.meaning.specs.State.{nth}
use Rattle.meaning.specs.Perform.{Undefined, Stop, Outside, Performed, perform}
use Rattle.meaning.specs.Refines.{AtLeast, AllAtLeast, SameEvents}

-- place by place, whatever the lengths
abbrev pub ByPlace : List Value → List Value → Type 0
ByPlace vs us = (i : ℕ) → AtLeast (nth vs i) (nth us i)

abbrev pub OperandsAtLeast : List (List Value) → List (List Value) → Type 0
OperandsAtLeast [] [] = Unit {0}
OperandsAtLeast [] (u ∷ us) = ⊥
OperandsAtLeast (v ∷ vs) [] = ⊥
OperandsAtLeast (v ∷ vs) (u ∷ us) = AllAtLeast v u × OperandsAtLeast vs us

abbrev pub BytesAtLeast : List (ℕ × Value) → List (ℕ × Value) → Type 0
BytesAtLeast [] [] = Unit {0}
BytesAtLeast [] (c ∷ cs) = ⊥
BytesAtLeast (b ∷ bs) [] = ⊥
BytesAtLeast (b ∷ bs) (c ∷ cs) = (b.0 ≡ c.0) × AtLeast b.1 c.1 × BytesAtLeast bs cs

pub record OutsideAtLeast (o o' : Outside) : Type 0 where
  pub bytes : BytesAtLeast o.bytes o'.bytes
  pub calls : o.calls ≡ o'.calls

-- the run is still defined after this
abbrev pub IsFine : Performed → Type 0
IsFine d = (d.control ≡ Stop Undefined → ⊥) × (d.divisor_defined ≡ true)

pub record PerformedAtLeast (d d' : Performed) : Type 0 where
  pub results : ByPlace d.results d'.results
  pub outside : OutsideAtLeast d.outside d'.outside
  pub events : SameEvents d.events d'.events
  pub control : d'.control ≡ d.control
  pub divisor_defined : d'.divisor_defined ≡ true

abbrev pub PerformIsMonotone : Type 0
PerformIsMonotone =
    (r : Rest) (env : Environment) (o o' : Outside) (vs us : List (List Value)) → OutsideAtLeast o o' → OperandsAtLeast vs us →
    IsFine (perform r env o vs) → PerformedAtLeast (perform r env o vs) (perform r env o' us)
