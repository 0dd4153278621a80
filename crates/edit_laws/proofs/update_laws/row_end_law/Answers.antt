use Rattle.edit_laws.proofs.RowEnd.{row-end-law}
use Rattle.edit_laws.proofs.update_laws.row_end_law.Goals as goal

pub returns : goal.returns
returns c = row-end-law
