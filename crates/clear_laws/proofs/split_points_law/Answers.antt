use Rattle.clear_laws.proofs.SplitPoints.{split_keeps_points}
use Rattle.clear_laws.proofs.split_points_law.Goals as goal

pub returns : goal.returns
returns c = split_keeps_points
