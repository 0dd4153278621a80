use Rattle.edit_laws.proofs.Others.{gone-law}
use Rattle.edit_laws.proofs.update_laws.gone_law.Goals as goal

pub returns : goal.returns
returns c = gone-law
