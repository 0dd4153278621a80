use Rattle.std.proofs.Common.{◌≡◌, drop, map}
use Rattle.std.specs.List.{list_all, zip}
use Rattle.place_solve.specs.Choice.{use_of, need_of, seats, stands_beside, fits}
use Rattle.place_solve.proofs.search.fits.Given as goal

abbrev pub invariant-each : goal.invariant-each
invariant-each l = list_all (stands_beside l.target (use_of l.kind) l.r) (zip (drop l.k (map need_of l.variables)) (drop l.k l.chosen)) ≡ fits l.target (seats l.variables l.chosen) (use_of l.kind) l.r
