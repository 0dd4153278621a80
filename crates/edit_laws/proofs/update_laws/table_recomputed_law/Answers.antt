use Rattle.edit_laws.proofs.Recomputed.{table-recomputed-law}
use Rattle.edit_laws.proofs.update_laws.table_recomputed_law.Goals as goal

pub returns : goal.returns
returns c = table-recomputed-law
