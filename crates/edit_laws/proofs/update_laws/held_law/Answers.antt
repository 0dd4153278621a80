use Rattle.edit_laws.proofs.Rechecked.{held-law}
use Rattle.edit_laws.proofs.update_laws.held_law.Goals as goal

pub returns : goal.returns
returns c = held-law
