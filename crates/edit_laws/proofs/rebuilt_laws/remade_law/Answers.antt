use Rattle.edit_laws.proofs.Told.{remade-law}
use Rattle.edit_laws.proofs.rebuilt_laws.remade_law.Goals as goal

pub returns : goal.returns
returns c = remade-law
