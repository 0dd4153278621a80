use Rattle.std.proofs.Common.{◌≡◌, drop}
use Rattle.std.specs.List.{list_any}
use Rattle.place_solve.specs.Copies.{names}
use Rattle.place_solve.proofs.copies.is_named.Given as goal

abbrev pub invariant-each : goal.invariant-each
invariant-each l = list_any (names l.loc) (drop l.o-index l.operands) ≡ list_any (names l.loc) l.operands
