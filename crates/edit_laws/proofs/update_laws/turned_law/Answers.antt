use Rattle.edit_laws.proofs.Turned.{turned-law}
use Rattle.edit_laws.proofs.update_laws.turned_law.Goals as goal

pub returns : goal.returns
returns c = turned-law
