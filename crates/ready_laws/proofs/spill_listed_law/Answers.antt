use Rattle.ready_laws.proofs.Listed.{spill-keeps-listed}
use Rattle.ready_laws.proofs.spill_listed_law.Goals as goal

pub returns : goal.returns
returns c = spill-keeps-listed
