use Rattle.edit_laws.proofs.Recomputed.{recomputed-law}
use Rattle.edit_laws.proofs.update_laws.recomputed_law.Goals as goal

pub returns : goal.returns
returns c = recomputed-law
