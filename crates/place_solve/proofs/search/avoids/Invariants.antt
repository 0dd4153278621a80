use Rattle.std.proofs.Common.{◌≡◌, drop}
use Rattle.std.specs.List.{list_all}
use Rattle.live_lanes.specs.Looks.{InOrder}
use Rattle.place_solve.specs.Choice.{use_of, is_free}
use Rattle.place_solve.proofs.search.avoids.Given as goal

abbrev pub invariant-each : goal.invariant-each
invariant-each l = InOrder l.live.table → list_all (is_free l.live.target l.live.table l.around (use_of l.kind)) (drop l.u-index l.u-items) ≡ list_all (is_free l.live.target l.live.table l.around (use_of l.kind)) l.u-items
