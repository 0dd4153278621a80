use Rattle.edit_laws.proofs.Refreshed.{table-update-law}
use Rattle.edit_laws.proofs.update_laws.table_update_law.Goals as goal

pub returns : goal.returns
returns c = table-update-law
