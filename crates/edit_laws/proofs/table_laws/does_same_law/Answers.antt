use Rattle.edit_laws.proofs.Further.{does-same-law}
use Rattle.edit_laws.proofs.table_laws.does_same_law.Goals as goal

pub returns : goal.returns
returns c = does-same-law
