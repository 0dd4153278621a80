use Rattle.edit_laws.proofs.Rebuilt.{rebuilt-law}
use Rattle.edit_laws.proofs.rebuilt_laws.rebuilt_law.Goals as goal

pub returns : goal.returns
returns c = rebuilt-law
