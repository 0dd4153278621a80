use Rattle.valid_laws.proofs.JoinStarts.{joined-keeps-start}
use Rattle.valid_laws.proofs.joined_start_law.Goals as goal

pub returns : goal.returns
returns c = joined-keeps-start
