use Rattle.edit_laws.proofs.Needs.{needs-law}
use Rattle.edit_laws.proofs.update_laws.needs_law.Goals as goal

pub returns : goal.returns
returns c = needs-law
