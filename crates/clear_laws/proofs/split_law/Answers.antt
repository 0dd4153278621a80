use Rattle.clear_laws.proofs.SplitPoints.{split_apart}
use Rattle.clear_laws.proofs.split_law.Goals as goal

pub returns : goal.returns
returns c = split_apart
