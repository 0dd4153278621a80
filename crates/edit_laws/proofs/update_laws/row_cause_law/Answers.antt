use Rattle.edit_laws.proofs.RowCause.{row-cause-law}
use Rattle.edit_laws.proofs.update_laws.row_cause_law.Goals as goal

pub returns : goal.returns
returns c = row-cause-law
