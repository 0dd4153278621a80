use Rattle.ready_laws.proofs.Runs.{run-without-spills-is-listed}
use Rattle.ready_laws.proofs.run_listed_law.Goals as goal

pub returns : goal.returns
returns c = run-without-spills-is-listed
