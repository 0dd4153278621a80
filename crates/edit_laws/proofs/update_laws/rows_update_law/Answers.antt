use Rattle.edit_laws.proofs.RowsUpdated.{rows-update-law}
use Rattle.edit_laws.proofs.update_laws.rows_update_law.Goals as goal

pub returns : goal.returns
returns c = rows-update-law
