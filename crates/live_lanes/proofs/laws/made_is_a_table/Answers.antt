use Rattle.live_lanes.proofs.Coded.{made-law}
use Rattle.live_lanes.proofs.laws.made_is_a_table.Goals as goal

pub returns : goal.returns
returns c = made-law
