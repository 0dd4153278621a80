use Rattle.worked_examples.proofs.MachineCodeLemmas.Computed as proved
use Rattle.worked_examples.proofs.machine_code.runs.Goals as goal

pub returns : goal.returns
returns c = record {
  adds_to_itself = proved.adds;
  zero_traps = proved.traps;
  negatives_fill_their_lanes = proved.negatives;
  undefined_divisor = proved.undefined_divisor;
  half_undefined = proved.half;
  phis_swap = proved.swaps;
  parts_move_at_once = proved.at_once;
}
