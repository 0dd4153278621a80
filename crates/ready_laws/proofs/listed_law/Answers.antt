use Rattle.ready_laws.proofs.Starts.{start-is-listed}
use Rattle.ready_laws.proofs.listed_law.Goals as goal

pub returns : goal.returns
returns c = start-is-listed
