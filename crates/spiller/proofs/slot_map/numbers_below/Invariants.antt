use Rattle.std.proofs.Common.{◌≡◌}
use Rattle.mir_meaning.specs.Registers.{numbers}
use Rattle.spiller.proofs.slot_map.numbers_below.Given as goal

abbrev pub invariant-numbers : goal.invariant-numbers
invariant-numbers l = l.ns.items ≡ numbers 0 l.n
