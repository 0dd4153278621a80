-- What the functions do when they run.
use Rattle.std.specs.Prelude.{◌≡◌, ℕ, true, false, List, [], ◌∷◌, Some, None}
use Rattle.target_base.specs.Mini.{mini_target}
use Rattle.meaning.specs.Environment.{Environment, Value}
use Rattle.meaning.specs.Perform.{Event, StoreEvent, ReturnEvent, End, Returned, Trapped, Steps}
use Rattle.meaning.specs.Code.{run}
use Rattle.mir_func.specs.Value.{Function}
use Rattle.mir_meaning.specs.Codes.{meaning_of}
use Rattle.worked_examples.specs.MachineCode.Functions.{tied_add, tied_add_allocated, zero_divisor, minus_two, undefined_divisor, half_undefined, swap, turned}

-- unit u holds 1 + u at the start, and %fixed-stack.0 lies at 2 ^ 20
abbrev pub seeded : Environment
seeded = record {
  entry = (0, Some 1) ∷ (1, Some 2) ∷ (2, Some 3) ∷ (3, Some 4) ∷ (4, Some 5) ∷ (5, Some 6) ∷ [];
  bytes = [];
  stack = [];
  fixed_stack = (0, 1048576) ∷ [];
  symbols = [];
  answers = [];
}

-- the run through n counted instructions is defined all the way
abbrev pub Makes : Function → ℕ → List Event → End → Type 0
Makes f n events end = run (meaning_of mini_target f) seeded n ≡ record { events = events; end = end; divisors_defined = true }

abbrev pub returns : List Value → List Event
returns vs = ReturnEvent vs ∷ []

abbrev pub stores : List Value → Event
stores vs = StoreEvent 1048576 vs

-- twice $eax, by the source and by the allocated function
abbrev pub AddsToItself : Type 0
AddsToItself = Makes tied_add 10 (returns (Some 2 ∷ Some 4 ∷ Some 6 ∷ [])) Returned × Makes tied_add_allocated 10 (returns (Some 2 ∷ Some 4 ∷ Some 6 ∷ [])) Returned

abbrev pub ZeroTraps : Type 0
ZeroTraps = Makes zero_divisor 10 [] Trapped

-- of a negative number each lane has its bits
abbrev pub NegativesFillTheirLanes : Type 0
NegativesFillTheirLanes = Makes minus_two 10 (returns (Some 254 ∷ Some 255 ∷ Some 65535 ∷ Some 254 ∷ Some 255 ∷ Some 65535 ∷ [])) Returned

-- the run goes on with an Undef quotient, and counts as defined no longer
abbrev pub UndefinedDivisor : Type 0
UndefinedDivisor = run (meaning_of mini_target undefined_divisor) seeded 10 ≡ record { events = returns (None ∷ None ∷ None ∷ []); end = Returned; divisors_defined = false }

-- the offset counts bytes
abbrev pub HalfUndefined : Type 0
HalfUndefined = Makes half_undefined 10 (StoreEvent 1048579 (Some 5 ∷ None ∷ None ∷ []) ∷ returns []) Returned

abbrev pub PhisSwap : Type 0
PhisSwap = Makes swap 5 (stores (Some 1 ∷ Some 2 ∷ Some 3 ∷ []) ∷ stores (Some 4 ∷ Some 5 ∷ Some 6 ∷ []) ∷ stores (Some 1 ∷ Some 2 ∷ Some 3 ∷ []) ∷ []) Steps

abbrev pub PartsMoveAtOnce : Type 0
PartsMoveAtOnce = Makes turned 1 (returns (Some 4 ∷ Some 5 ∷ Some 6 ∷ Some 1 ∷ Some 2 ∷ Some 3 ∷ [])) Returned
