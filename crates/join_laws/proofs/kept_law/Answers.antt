use Rattle.join_laws.proofs.Trying.{join_keeps_lowered}
use Rattle.join_laws.proofs.kept_law.Goals as goal

pub returns : goal.returns
returns c = join_keeps_lowered
