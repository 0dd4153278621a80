use Rattle.std.proofs.Common.{rules}
use Rattle.std.specs.Prelude.{nat_eq}
use Rattle.live_lanes.proofs.Last.{last-tells}
use Rattle.live_lanes.proofs.row.ends_with.Goals as goal

pub returns-in-Some : goal.returns-in-Some
returns-in-Some c = last-tells (λ r. nat_eq r.id c.args.id) c.args.readings.now c.in-Some.last.now c.in-Some.ensures.value
