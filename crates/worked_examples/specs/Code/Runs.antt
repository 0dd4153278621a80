-- What the small functions do.
use Rattle.std.specs.Prelude.{◌≡◌, ℕ, pos, true, false, List, [], ◌∷◌, Some, None}
use Rattle.meaning.specs.declared.types.Source.TheVariants.{Undef}
use Rattle.meaning.specs.Environment.{Environment, Value}
use Rattle.meaning.specs.Perform.{Event, CallEvent, StoreEvent, ReturnEvent, OpaqueEvent, End, Returned, Trapped, Undefined, Steps}
use Rattle.meaning.specs.Code.{Function, run}
use Rattle.worked_examples.specs.Code.Samples.{nothing, seeded, number, tied_add, tied_add_allocated, quotient, half_undefined, swapping, overlapping, reloaded_at, calling, comparing, answering, name, asking, deciding, calling_twice}

-- the run is defined all the way
abbrev pub Makes : Function → Environment → ℕ → List Event → End → Type 0
Makes f env n events end = run f env n ≡ record { events = events; end = end; divisors_defined = true }

abbrev pub returns : List Value → List Event
returns vs = ReturnEvent vs ∷ []

abbrev pub calls : List Value → Event
calls vs = CallEvent [] vs

-- the sum of a register with itself
abbrev pub AddsToItself : Type 0
AddsToItself =
    Makes tied_add seeded 10 (returns (Some 2 ∷ Some 4 ∷ Some 6 ∷ [])) Returned
    × Makes tied_add_allocated seeded 10 (returns (Some 2 ∷ Some 4 ∷ Some 6 ∷ [])) Returned
    -- the second counted instruction returns, which is the end; one is not enough
    × Makes tied_add seeded 2 (returns (Some 2 ∷ Some 4 ∷ Some 6 ∷ [])) Returned
    × Makes tied_add seeded 1 [] Steps
    × Makes tied_add seeded 0 [] Steps

-- a divisor of 0 traps, whatever the dividend holds
abbrev pub ZeroTraps : Type 0
ZeroTraps = Makes (quotient (number 7) (number 0)) nothing 1 [] Trapped × Makes (quotient Undef (number 0)) nothing 5 [] Trapped

-- an Undef divisor makes the quotient Undef, and the run is no longer defined; so is not an Undef dividend
abbrev pub UndefinedDivisor : Type 0
UndefinedDivisor =
    (run (quotient (number 7) Undef) nothing 5 ≡ record { events = returns (None ∷ []); end = Returned; divisors_defined = false })
    × Makes (quotient Undef (number 2)) nothing 5 (returns (None ∷ [])) Returned
    × Makes (quotient (number 7) (number 2)) nothing 5 (returns (Some 3 ∷ [])) Returned

-- the bytes of the Undef lane are Undef, and those past the register are the environment's
abbrev pub HalfUndefined : Type 0
HalfUndefined = Makes half_undefined seeded 9 (StoreEvent 16 (Some 1 ∷ None ∷ Some 3 ∷ []) ∷ returns (Some 1 ∷ None ∷ Some 3 ∷ Some 0 ∷ Some 0 ∷ [])) Returned

abbrev pub PhisSwap : Type 0
PhisSwap = Makes swapping nothing 5 (calls (Some 1 ∷ Some 2 ∷ []) ∷ calls (Some 2 ∷ Some 1 ∷ []) ∷ calls (Some 1 ∷ Some 2 ∷ []) ∷ []) Steps

abbrev pub CopiesAtOnce : Type 0
CopiesAtOnce = Makes overlapping nothing 1 (returns (Some 1 ∷ Some 1 ∷ Some 2 ∷ [])) Returned

-- a slot's lane is Undef at every width but that of its last store
abbrev pub SlotsKeepTheirWidth : Type 0
SlotsKeepTheirWidth =
    Makes (reloaded_at 8) nothing 1 (returns (Some 9 ∷ [])) Returned
    × Makes (reloaded_at 16) nothing 1 (returns (None ∷ [])) Returned
    × Makes (reloaded_at 32) nothing 1 (returns (None ∷ [])) Returned

abbrev pub CallsAnswer : Type 0
CallsAnswer = Makes calling seeded 2 (calls (Some 1 ∷ []) ∷ returns (Some 7 ∷ Some 8 ∷ Some 3 ∷ None ∷ [])) Returned

-- 200 is -56: less than 1 as a signed number, and not as an unsigned one
abbrev pub ConditionsHold : Type 0
ConditionsHold =
    Makes (comparing 200 1 (pos 12) 13) nothing 3 (returns (Some 1 ∷ [])) Returned
    × Makes (comparing 200 1 (pos 13) 13) nothing 3 (returns (Some 2 ∷ [])) Returned
    × Makes (comparing 200 1 (pos 2) 14) nothing 3 (returns (Some 2 ∷ [])) Returned
    × Makes (comparing 200 1 (pos 3) 14) nothing 3 (returns (Some 1 ∷ [])) Returned
    × Makes (comparing 200 200 (pos 4) 12) nothing 3 (returns (Some 1 ∷ [])) Returned
    × Makes (comparing 200 200 (pos 5) 12) nothing 3 (returns (Some 2 ∷ [])) Returned
    -- a flag that was never written
    × Makes (comparing 200 200 (pos 5) 9) nothing 3 [] Undefined

abbrev pub shows : List Value → Event
shows vs = OpaqueEvent name vs

-- An opaque instruction shows an Undef lane and takes the answer all the same; where an address is Undef it isn't done.
abbrev pub OpaqueAsks : Type 0
OpaqueAsks =
    Makes (asking (number 1) (number 2)) seeded 5 (shows (Some 1 ∷ Some 2 ∷ []) ∷ returns (Some 7 ∷ Some 8 ∷ [])) Returned
    × Makes (asking Undef (number 2)) seeded 5 (shows (None ∷ Some 2 ∷ []) ∷ returns (Some 7 ∷ Some 8 ∷ [])) Returned
    × Makes (asking (number 1) Undef) seeded 5 [] Undefined

-- 7 is no multiple of 3, so the branch is taken, and what it defines has lane 1 of the answer; 9 is one
abbrev pub OpaqueDecides : Type 0
OpaqueDecides =
    Makes deciding seeded 5 (shows [] ∷ shows (Some 8 ∷ []) ∷ []) Returned
    × Makes deciding answering 5 (shows [] ∷ returns (Some 2 ∷ [])) Returned

-- calls and opaque instructions take their answers in turn; behind the end of an open block there is nothing
abbrev pub AnswersInTurn : Type 0
AnswersInTurn = Makes calling_twice answering 5 (calls [] ∷ shows (Some 9 ∷ []) ∷ shows (Some 4 ∷ []) ∷ []) Undefined
