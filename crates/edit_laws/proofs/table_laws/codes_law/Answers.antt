use Rattle.edit_laws.proofs.Codes.{codes-law}
use Rattle.edit_laws.proofs.table_laws.codes_law.Goals as goal

pub returns : goal.returns
returns c = codes-law
