-- One function does what another does, as far as that one is defined.
use Rattle.std.specs.Prelude.{◌≡◌, ℕ, true, List, [], ◌∷◌, Some, None}
use Rattle.meaning.specs.Environment.{Environment, Value}
use Rattle.meaning.specs.Perform.{Event, CallEvent, StoreEvent, ReturnEvent, OpaqueEvent, Undefined}
use Rattle.meaning.specs.Code.{Function, Run, run}

-- where the first is a number, the second is the same
abbrev pub AtLeast : Value → Value → Type 0
AtLeast None w = Unit {0}
AtLeast (Some n) w = w ≡ Some n

abbrev pub AllAtLeast : List Value → List Value → Type 0
AllAtLeast [] [] = Unit {0}
AllAtLeast [] (w ∷ ws) = ⊥
AllAtLeast (v ∷ vs) [] = ⊥
AllAtLeast (v ∷ vs) (w ∷ ws) = AtLeast v w × AllAtLeast vs ws

abbrev pub SameEvent : Event → Event → Type 0
SameEvent (CallEvent f vs) (CallEvent g ws) = (f ≡ g) × AllAtLeast vs ws
SameEvent (StoreEvent a vs) (StoreEvent b ws) = (a ≡ b) × AllAtLeast vs ws
SameEvent (ReturnEvent vs) (ReturnEvent ws) = AllAtLeast vs ws
SameEvent (OpaqueEvent f vs) (OpaqueEvent g ws) = (f ≡ g) × AllAtLeast vs ws
SameEvent _ _ = ⊥

abbrev pub SameEvents : List Event → List Event → Type 0
SameEvents [] [] = Unit {0}
SameEvents [] (e ∷ es) = ⊥
SameEvents (e ∷ es) [] = ⊥
SameEvents (e ∷ es) (f ∷ fs) = SameEvent e f × SameEvents es fs

-- the run doesn't end Undefined, and each divisor that it read was defined
abbrev pub IsDefined : Run → Type 0
IsDefined r = (r.end ≡ Undefined → ⊥) × (r.divisors_defined ≡ true)

-- run s does what run r does
pub record Does (r s : Run) : Type 0 where
  pub defined : IsDefined s
  pub end : s.end ≡ r.end
  pub events : SameEvents r.events s.events

abbrev pub Refines : Function → Function → Type 0
Refines f g = (env : Environment) (n : ℕ) → IsDefined (run f env n) → Does (run f env n) (run g env n)
