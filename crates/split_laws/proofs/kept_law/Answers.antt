use Rattle.split_laws.proofs.Kept.{split_keeps_lowered}
use Rattle.split_laws.proofs.kept_law.Goals as goal

pub returns : goal.returns
returns c = split_keeps_lowered
