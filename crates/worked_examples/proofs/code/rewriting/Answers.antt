use Rattle.worked_examples.proofs.CodeLemmas.Clashes as proved
use Rattle.worked_examples.proofs.code.rewriting.Goals as goal

pub returns : goal.returns
returns c = record {
  rewrites_a_copy = proved.rewrites_a_copy;
  clash_matters = proved.clash_matters;
}
