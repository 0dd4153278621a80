use Rattle.valid_laws.proofs.JoinStarts.{join-keeps-start}
use Rattle.valid_laws.proofs.join_start_law.Goals as goal

pub returns : goal.returns
returns c = join-keeps-start
