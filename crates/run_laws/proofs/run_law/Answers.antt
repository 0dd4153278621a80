use Rattle.run_laws.proofs.Runs.{run_keeps_form}
use Rattle.run_laws.proofs.run_law.Goals as goal

pub returns : goal.returns
returns c = run_keeps_form
