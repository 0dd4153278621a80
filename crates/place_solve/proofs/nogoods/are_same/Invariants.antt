use Rattle.std.proofs.Common.{◌≡◌, take}
use Rattle.place_solve.proofs.nogoods.are_same.Given as goal

abbrev pub invariant-each : goal.invariant-each
invariant-each l = take l.k l.a ≡ take l.k l.b
