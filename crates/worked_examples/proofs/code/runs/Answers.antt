use Rattle.worked_examples.proofs.CodeLemmas.Computed.{adds, zero_traps, undefined_divisor, half, swaps, at_once, widths, answers, conditions, operations, asks, decides, in_turn}
use Rattle.worked_examples.proofs.code.runs.Goals as goal

pub returns : goal.returns
returns c = record {
  adds_to_itself = adds;
  zero_traps = zero_traps;
  undefined_divisor = undefined_divisor;
  half_undefined = half;
  phis_swap = swaps;
  copies_at_once = at_once;
  slots_keep_their_width = widths;
  calls_answer = answers;
  conditions_hold = conditions;
  operations_give = operations;
  opaque_asks = asks;
  opaque_decides = decides;
  answers_in_turn = in_turn;
}
