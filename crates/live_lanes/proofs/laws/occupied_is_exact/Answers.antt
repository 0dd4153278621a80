use Rattle.live_lanes.proofs.Occupied.{held-law}
use Rattle.live_lanes.proofs.laws.occupied_is_exact.Goals as goal

pub returns : goal.returns
returns c = held-law
