use Rattle.edit_laws.proofs.Ended.{ends-law}
use Rattle.edit_laws.proofs.table_laws.ends_law.Goals as goal

pub returns : goal.returns
returns c = ends-law
