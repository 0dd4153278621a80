use Rattle.std.proofs.Common.{◌≡◌, ◌++◌, take}
use Rattle.std.specs.List.{flat_map}
use Rattle.two_address.specs.Ties.{undefined_first}
use Rattle.two_address.proofs.ties.push_undefined.Given as goal

abbrev pub invariant-each : goal.invariant-each
invariant-each l = l.out.items ≡ l.fn.out.items ++ flat_map undefined_first (take l.o-index l.operands)
