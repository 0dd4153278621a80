use Rattle.std.proofs.Common.{◌≡◌, take}
use Rattle.std.specs.Prelude.{filter}
use Rattle.place_solve.specs.Tinies.{stands_for_tiny}
use Rattle.place_solve.proofs.tinies.tinies_among.Given as goal

abbrev pub invariant-each : goal.invariant-each
invariant-each l = l.made.items ≡ filter (stands_for_tiny l.tinies) (take l.v-index l.variables)
