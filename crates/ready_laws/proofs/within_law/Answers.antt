use Rattle.ready_laws.proofs.Starts.{within-keeps-listed}
use Rattle.ready_laws.proofs.within_law.Goals as goal

pub returns : goal.returns
returns c = within-keeps-listed
