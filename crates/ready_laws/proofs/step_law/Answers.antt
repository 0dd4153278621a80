use Rattle.ready_laws.proofs.Runs.{step-keeps-ready}
use Rattle.ready_laws.proofs.step_law.Goals as goal

pub returns : goal.returns
returns c = step-keeps-ready
