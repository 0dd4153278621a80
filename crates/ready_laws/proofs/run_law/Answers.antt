use Rattle.ready_laws.proofs.Runs.{run-is-ready}
use Rattle.ready_laws.proofs.run_law.Goals as goal

pub returns : goal.returns
returns c = run-is-ready
