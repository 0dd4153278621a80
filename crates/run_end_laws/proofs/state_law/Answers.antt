use Rattle.run_end_laws.proofs.States.{allocating-keeps-state}
use Rattle.run_end_laws.proofs.state_law.Goals as goal

pub returns : goal.returns
returns c = allocating-keeps-state
