use Rattle.sibling_laws.proofs.Runs.{run-keeps-slot-apart}
use Rattle.sibling_laws.proofs.apart_law.Goals as goal

pub returns : goal.returns
returns c = run-keeps-slot-apart
