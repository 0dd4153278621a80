use Rattle.std.proofs.Common.{◌≡◌, drop}
use Rattle.std.specs.List.{list_any}
use Rattle.place_solve.specs.Positions.{defines}
use Rattle.place_solve.proofs.position.is_defined.Given as goal

abbrev pub invariant-each : goal.invariant-each
invariant-each l = list_any (defines l.target l.u) (drop l.o-index l.operands) ≡ list_any (defines l.target l.u) l.operands
