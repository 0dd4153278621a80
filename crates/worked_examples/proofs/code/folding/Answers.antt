use Rattle.worked_examples.proofs.CodeLemmas.Folds as proved
use Rattle.worked_examples.proofs.code.folding.Goals as goal

pub returns : goal.returns
returns c = record {
  folds_a_copy = proved.folds_a_copy;
  quiet_matters = proved.quiet_matters;
  fixes_matters = proved.fixes_matters;
  only_matters = proved.only_matters;
  layout_matters = proved.layout_matters;
  no_phis_matters = proved.no_phis_matters;
  starts_matter = proved.starts_matter;
}
