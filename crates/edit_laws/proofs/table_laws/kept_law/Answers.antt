use Rattle.edit_laws.proofs.Kept.{kept-law}
use Rattle.edit_laws.proofs.table_laws.kept_law.Goals as goal

pub returns : goal.returns
returns c = kept-law
