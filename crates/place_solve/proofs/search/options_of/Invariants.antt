use Rattle.std.proofs.Common.{◌≡◌, take}
use Rattle.std.specs.Prelude.{filter}
use Rattle.live_lanes.specs.Looks.{InOrder}
use Rattle.place_solve.specs.Choice.{use_of, may_lie}
use Rattle.place_solve.proofs.search.options_of.Given as goal

abbrev pub invariant-each : goal.invariant-each
invariant-each l = InOrder l.live.table → l.options ≡ filter (may_lie l.live.target l.live.table l.around (use_of l.v.kind)) (take l.r-index l.r-items)
