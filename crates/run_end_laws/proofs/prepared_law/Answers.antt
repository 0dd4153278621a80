use Rattle.run_end_laws.proofs.States.{prepared-keeps-state}
use Rattle.run_end_laws.proofs.prepared_law.Goals as goal

pub returns : goal.returns
returns c = prepared-keeps-state
