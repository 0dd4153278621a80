use Rattle.live_lanes.proofs.Ending.{end-law}
use Rattle.live_lanes.proofs.Looked.{look-law}
use Rattle.live_lanes.proofs.Right.{right-law}
use Rattle.live_lanes.proofs.laws.ends_are_exact.Goals as goal

pub returns : goal.returns
returns c = record { reached = end-law; right = right-law; look = look-law }
