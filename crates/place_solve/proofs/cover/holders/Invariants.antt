use Rattle.std.proofs.Common.{◌≡◌, ◌≤◌, ◌+◌, drop, map}
use Rattle.place_solve.specs.Choice.{need_of, holders}
use Rattle.place_solve.proofs.cover.holders.Given as goal

abbrev pub invariant-each : goal.invariant-each
invariant-each l = record {
  bound : l.count ≤ l.k;
  counted : l.count + holders l.target l.units (drop l.k (map need_of l.behind)) (drop l.k l.left) ≡ holders l.target l.units (map need_of l.behind) l.left;
}
