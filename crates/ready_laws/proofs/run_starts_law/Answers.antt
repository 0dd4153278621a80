use Rattle.ready_laws.proofs.Listed.{run-is-listed}
use Rattle.ready_laws.proofs.run_starts_law.Goals as goal

pub returns : goal.returns
returns c = run-is-listed
