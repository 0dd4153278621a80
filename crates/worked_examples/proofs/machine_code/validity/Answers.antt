use Rattle.worked_examples.proofs.MachineCodeLemmas.Faults as proved
use Rattle.worked_examples.proofs.machine_code.validity.Goals as goal

pub returns : goal.returns
returns c = record {
  tied_adds_are_valid = proved.tied_adds;
  never_written = proved.never;
  live_across = proved.across_blocks;
  covers = proved.covers;
  rules_fail = proved.rules_fail;
}
