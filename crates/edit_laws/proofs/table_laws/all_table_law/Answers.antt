use Rattle.edit_laws.proofs.Composed.{all-table-law}
use Rattle.edit_laws.proofs.table_laws.all_table_law.Goals as goal

pub returns : goal.returns
returns c = all-table-law
