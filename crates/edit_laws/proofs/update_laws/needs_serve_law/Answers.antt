use Rattle.edit_laws.proofs.Needs.{needs-serve-law}
use Rattle.edit_laws.proofs.update_laws.needs_serve_law.Goals as goal

pub returns : goal.returns
returns c = needs-serve-law
