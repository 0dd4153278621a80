use Rattle.std.proofs.Common.{◌≡◌, drop}
use Rattle.place_solve.specs.Tinies.{is_tiny}
use Rattle.place_solve.proofs.tinies.is_tiny.Given as goal

abbrev pub invariant-each : goal.invariant-each
invariant-each l = is_tiny (drop l.t-index l.all) l.v ≡ is_tiny l.all l.v
