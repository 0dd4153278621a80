use Rattle.clear_laws.proofs.SpillKept.{places_are_kept}
use Rattle.clear_laws.proofs.SpillPoints.{spill_points_by}
use Rattle.clear_laws.proofs.spill_points_law.Goals as goal

pub returns : goal.returns
returns c = spill_points_by places_are_kept
