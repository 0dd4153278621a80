use Rattle.run_laws.proofs.Runs.{step_is_in_run}
use Rattle.run_laws.proofs.step_law.Goals as goal

pub returns : goal.returns
returns c = step_is_in_run
