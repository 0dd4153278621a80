use Rattle.std.proofs.Common.{◌≡◌, ◌++◌, drop, map}
use Rattle.place_solve.specs.Choice.{need_of}
use Rattle.place_solve.specs.Tinies.{paired}
use Rattle.place_solve.proofs.tinies.pair_choices.Given as goal

abbrev pub invariant-each : goal.invariant-each
invariant-each l = l.made ++ paired (map need_of (drop l.k l.variables)) (drop l.k l.chosen) ≡ paired (map need_of l.variables) l.chosen
