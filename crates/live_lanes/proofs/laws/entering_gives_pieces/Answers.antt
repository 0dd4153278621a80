use Rattle.live_lanes.proofs.Filled.{entering-law}
use Rattle.live_lanes.proofs.laws.entering_gives_pieces.Goals as goal

pub returns : goal.returns
returns c = entering-law
