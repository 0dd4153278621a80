use Rattle.edit_laws.proofs.Risen.{update-law}
use Rattle.edit_laws.proofs.update_laws.update_law.Goals as goal

pub returns : goal.returns
returns c = update-law
