use Rattle.sibling_laws.proofs.Runs.{run-keeps-siblings}
use Rattle.sibling_laws.proofs.run_law.Goals as goal

pub returns : goal.returns
returns c = run-keeps-siblings
