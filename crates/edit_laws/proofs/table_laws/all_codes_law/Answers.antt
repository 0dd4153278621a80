use Rattle.edit_laws.proofs.Composed.{all-codes-law}
use Rattle.edit_laws.proofs.table_laws.all_codes_law.Goals as goal

pub returns : goal.returns
returns c = all-codes-law
