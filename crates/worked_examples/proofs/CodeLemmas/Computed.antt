-- The runs are computed.
use Rattle.std.proofs.Common.{refl}
use Rattle.meaning.specs.Perform.{perform}
use Rattle.worked_examples.specs.Code.Operations.{OperationsGive}
use Rattle.worked_examples.specs.Code.Runs.{AddsToItself, ZeroTraps, UndefinedDivisor, HalfUndefined, PhisSwap, CopiesAtOnce, SlotsKeepTheirWidth, CallsAnswer, ConditionsHold, OpaqueAsks, OpaqueDecides, AnswersInTurn}

pub adds : AddsToItself
unfolding perform
adds = (refl, refl, refl, refl, refl)

pub zero_traps : ZeroTraps
unfolding perform
zero_traps = (refl, refl)

pub undefined_divisor : UndefinedDivisor
unfolding perform
undefined_divisor = (refl, refl, refl)

pub half : HalfUndefined
unfolding perform
half = refl

pub swaps : PhisSwap
unfolding perform
swaps = refl

pub at_once : CopiesAtOnce
unfolding perform
at_once = refl

pub widths : SlotsKeepTheirWidth
unfolding perform
widths = (refl, refl, refl)

pub answers : CallsAnswer
unfolding perform
answers = refl

pub conditions : ConditionsHold
unfolding perform
conditions = (refl, refl, refl, refl, refl, refl, refl)

pub operations : OperationsGive
unfolding perform
operations = refl

pub asks : OpaqueAsks
unfolding perform
asks = (refl, refl, refl)

pub decides : OpaqueDecides
unfolding perform
decides = (refl, refl)

pub in_turn : AnswersInTurn
unfolding perform
in_turn = refl
