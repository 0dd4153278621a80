use Rattle.edit_laws.proofs.Rechecked.{kept-held-law}
use Rattle.edit_laws.proofs.update_laws.kept_held_law.Goals as goal

pub returns : goal.returns
returns c = kept-held-law
