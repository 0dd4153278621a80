use Rattle.edit_laws.proofs.Rechecked.{listed-law}
use Rattle.edit_laws.proofs.update_laws.listed_law.Goals as goal

pub returns : goal.returns
returns c = listed-law
