use Rattle.std.proofs.Common.{◌≡◌, ◌*◌, ◌++◌, drop}
use Rattle.two_address.specs.Sequences.{parts_of}
use Rattle.two_address.proofs.sequences.parts_of.Given as goal

abbrev pub invariant-pairs : goal.invariant-pairs
invariant-pairs l = l.parts.items ++ parts_of (drop (2 * l.k) l.operands) ≡ parts_of l.operands
