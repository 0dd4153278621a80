use Rattle.worked_examples.proofs.CodeLemmas.Stepping as proved
use Rattle.worked_examples.proofs.code.laws.Goals as goal

pub returns : goal.returns
returns c = record {
  spills_in_step = proved.spills;
  steps_from_another_start = proved.another_start;
  agrees_over_a_loop = proved.over_a_loop;
  fine_matters = proved.fine_matters;
}
