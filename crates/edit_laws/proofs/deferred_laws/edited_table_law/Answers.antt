use Rattle.edit_laws.proofs.EditedTable.{edited-table-law}
use Rattle.edit_laws.proofs.deferred_laws.edited_table_law.Goals as goal

pub returns : goal.returns
returns c = edited-table-law
