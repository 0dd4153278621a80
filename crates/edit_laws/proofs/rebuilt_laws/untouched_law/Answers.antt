use Rattle.edit_laws.proofs.Rebuilt.{untouched-law}
use Rattle.edit_laws.proofs.rebuilt_laws.untouched_law.Goals as goal

pub returns : goal.returns
returns c = untouched-law
