-- The runs, by computing.
use Rattle.std.specs.Prelude.{refl}
use Rattle.target_base.specs.Mini.{mini_target}
use Rattle.meaning.specs.Perform.{perform}
use Rattle.mir_meaning.specs.Codes.{meaning_of, code_of, item_of}
use Rattle.worked_examples.specs.MachineCode.Runs.{AddsToItself, ZeroTraps, NegativesFillTheirLanes, UndefinedDivisor, HalfUndefined, PhisSwap, PartsMoveAtOnce}

pub adds : AddsToItself
unfolding mini_target perform meaning_of code_of item_of
adds = (refl, refl)

pub traps : ZeroTraps
unfolding mini_target perform meaning_of code_of item_of
traps = refl

pub negatives : NegativesFillTheirLanes
unfolding mini_target perform meaning_of code_of item_of
negatives = refl

pub undefined_divisor : UndefinedDivisor
unfolding mini_target perform meaning_of code_of item_of
undefined_divisor = refl

pub half : HalfUndefined
unfolding mini_target perform meaning_of code_of item_of
half = refl

pub swaps : PhisSwap
unfolding mini_target perform meaning_of code_of item_of
swaps = refl

pub at_once : PartsMoveAtOnce
unfolding mini_target perform meaning_of code_of item_of
at_once = refl
