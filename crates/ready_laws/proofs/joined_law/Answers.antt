use Rattle.ready_laws.proofs.Runs.{joined-is-ready}
use Rattle.ready_laws.proofs.joined_law.Goals as goal

pub returns : goal.returns
returns c = joined-is-ready
