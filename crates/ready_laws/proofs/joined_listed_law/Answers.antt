use Rattle.ready_laws.proofs.JoinStarts.{joined-keeps-listed}
use Rattle.ready_laws.proofs.joined_listed_law.Goals as goal

pub returns : goal.returns
returns c = joined-keeps-listed
