use Rattle.edit_laws.proofs.Told.{told-law}
use Rattle.edit_laws.proofs.rebuilt_laws.told_law.Goals as goal

pub returns : goal.returns
returns c = told-law
