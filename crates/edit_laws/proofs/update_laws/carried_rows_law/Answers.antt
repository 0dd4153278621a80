use Rattle.edit_laws.proofs.CarriedRows.{carried-rows-law}
use Rattle.edit_laws.proofs.update_laws.carried_rows_law.Goals as goal

pub returns : goal.returns
returns c = carried-rows-law
