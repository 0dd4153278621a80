use Rattle.run_end_laws.proofs.States.{step-keeps-state}
use Rattle.run_end_laws.proofs.step_law.Goals as goal

pub returns : goal.returns
returns c = step-keeps-state
