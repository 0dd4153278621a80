use Rattle.edit_laws.proofs.Standing.{edited-rows-law}
use Rattle.edit_laws.proofs.deferred_laws.edited_rows_law.Goals as goal

pub returns : goal.returns
returns c = edited-rows-law
