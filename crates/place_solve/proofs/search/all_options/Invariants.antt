use Rattle.std.proofs.Common.{◌≡◌, length, map, take}
use Rattle.live_lanes.specs.Looks.{InOrder}
use Rattle.place_solve.specs.Choice.{options_in}
use Rattle.place_solve.proofs.search.all_options.Given as goal

abbrev pub invariant-each : goal.invariant-each
invariant-each l = (length l.options.items ≡ l.v-index) × (InOrder l.live.table → l.options.items ≡ map (options_in l.live.target l.live.table l.around) (take l.v-index l.variables))
