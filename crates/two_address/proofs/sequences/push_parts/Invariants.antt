use Rattle.std.proofs.Common.{◌≡◌, ◌++◌, take, map}
use Rattle.two_address.specs.Sequences.{into_part}
use Rattle.two_address.proofs.sequences.push_parts.Given as goal

abbrev pub invariant-each : goal.invariant-each
invariant-each l = l.out.items ≡ l.fn.out.items ++ map (into_part l.to) (take l.p-index l.parts)
