use Rattle.laws.proofs.Quiet.{law_of_folds}
use Rattle.laws.proofs.folds_law.Goals as goal

pub returns : goal.returns
returns c = law_of_folds
