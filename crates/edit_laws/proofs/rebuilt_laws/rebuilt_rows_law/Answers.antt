use Rattle.edit_laws.proofs.Rebuilt.{rebuilt-rows-law}
use Rattle.edit_laws.proofs.rebuilt_laws.rebuilt_rows_law.Goals as goal

pub returns : goal.returns
returns c = rebuilt-rows-law
