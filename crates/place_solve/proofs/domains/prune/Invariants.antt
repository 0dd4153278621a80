use Rattle.std.proofs.Common.{◌≡◌, ◌++◌, drop, map}
use Rattle.place_solve.specs.Choice.{need_of, narrowed}
use Rattle.place_solve.proofs.domains.prune.Given as goal

abbrev pub invariant-each : goal.invariant-each
invariant-each l = l.made ++ narrowed l.target (need_of l.w, l.q) (drop l.k (map need_of l.behind)) (drop l.k l.left) ≡ narrowed l.target (need_of l.w, l.q) (map need_of l.behind) l.left
