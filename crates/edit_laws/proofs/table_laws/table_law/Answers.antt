use Rattle.edit_laws.proofs.Tables.{table-law}
use Rattle.edit_laws.proofs.table_laws.table_law.Goals as goal

pub returns : goal.returns
returns c = table-law
