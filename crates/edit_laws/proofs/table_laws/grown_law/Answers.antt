use Rattle.edit_laws.proofs.Grown.{grown-law}
use Rattle.edit_laws.proofs.table_laws.grown_law.Goals as goal

pub returns : goal.returns
returns c = grown-law
