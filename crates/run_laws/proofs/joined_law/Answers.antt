use Rattle.run_laws.proofs.Runs.{joined_is_in_run}
use Rattle.run_laws.proofs.joined_law.Goals as goal

pub returns : goal.returns
returns c = joined_is_in_run
