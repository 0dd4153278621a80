use Rattle.std.proofs.Common.{◌≡◌, drop}
use Rattle.std.specs.Prelude.{◌&&◌, filter}
use Rattle.live_lanes.specs.Looks.{InOrder}
use Rattle.place_solve.specs.Choice.{use_of, seats, fits, may_lie, options_in, first}
use Rattle.place_solve.proofs.search.first_beside.Given as goal

abbrev pub invariant-each : goal.invariant-each
invariant-each l = InOrder l.live.table → first (filter (λ r. fits l.live.target (seats l.variables l.chosen) (use_of l.v.kind) r && may_lie l.live.target l.live.table l.around (use_of l.v.kind) r) (drop l.r-index l.r-items)) ≡ first (filter (fits l.live.target (seats l.variables l.chosen) (use_of l.v.kind)) (options_in l.live.target l.live.table l.around l.v))
