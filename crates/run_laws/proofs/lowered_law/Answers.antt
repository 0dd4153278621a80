use Rattle.run_laws.proofs.Runs.{lowered_is_in_run}
use Rattle.run_laws.proofs.lowered_law.Goals as goal

pub returns : goal.returns
returns c = lowered_is_in_run
