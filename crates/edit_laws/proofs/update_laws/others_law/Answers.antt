use Rattle.edit_laws.proofs.Others.{others-law}
use Rattle.edit_laws.proofs.update_laws.others_law.Goals as goal

pub returns : goal.returns
returns c = others-law
