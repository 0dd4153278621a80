use Rattle.sibling_laws.proofs.SplitPoints.{split-shares-points}
use Rattle.sibling_laws.proofs.points_law.Goals as goal

pub returns : goal.returns
returns c = split-shares-points
