use Rattle.valid_laws.proofs.Classes.{physical-indexes}
use Rattle.valid_laws.proofs.indexes_law.Goals as goal

pub returns : goal.returns
returns c = physical-indexes
