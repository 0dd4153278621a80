use Rattle.std.proofs.Common.{◌≡◌, length, map}
use Rattle.live_lanes.specs.Looks.{InOrder}
use Rattle.place_solve.specs.Choice.{options_in}
use Rattle.place_solve.proofs.Firsts.{Leads}
use Rattle.place_solve.proofs.search.choice_in_turn.Given as goal

abbrev pub invariant-each : goal.invariant-each
invariant-each l = (length l.chosen.items ≡ l.v-index) × (InOrder l.live.table → Leads l.live.target l.variables (map (options_in l.live.target l.live.table l.around) l.variables) l.chosen.items)
