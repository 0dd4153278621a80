use Rattle.ready_laws.proofs.LoweredStarts.{lowered-is-listed}
use Rattle.ready_laws.proofs.lowered_listed_law.Goals as goal

pub returns : goal.returns
returns c = lowered-is-listed
