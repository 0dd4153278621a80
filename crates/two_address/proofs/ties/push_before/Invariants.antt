use Rattle.std.proofs.Common.{◌≡◌, ◌++◌, take}
use Rattle.std.specs.List.{flat_map}
use Rattle.two_address.specs.Ties.{copies}
use Rattle.two_address.proofs.ties.push_before.Given as goal

abbrev pub invariant-each : goal.invariant-each
invariant-each l = l.out.items ≡ l.fn.out.items ++ flat_map (λ tie. copies tie.before) (take l.tie-index l.ties)
