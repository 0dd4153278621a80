use Rattle.std.proofs.Common.{sym}
use Rattle.spiller.proofs.FirstLanes.{other-count}
use Rattle.spiller.proofs.places.are_first_lanes.Goals as goal

pub returns-then-lanes-count : goal.returns-then-lanes-count
returns-then-lanes-count c = sym (other-count c.args.count c.args.lanes.now c.if-lanes-count.true)
