use Rattle.edit_laws.proofs.Standing.{standing-table-law}
use Rattle.edit_laws.proofs.deferred_laws.standing_table_law.Goals as goal

pub returns : goal.returns
returns c = standing-table-law
