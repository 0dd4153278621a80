use Rattle.std.proofs.Common.{◌≡◌, ◌++◌, ◌-◌}
use Rattle.mir_meaning.specs.Registers.{numbers}
use Rattle.instr_effects.proofs.items.silent.first_numbers.Given as goal

abbrev pub invariant-loop-k : goal.invariant-loop-k
invariant-loop-k l = l.made ++ numbers l.k (l.count - l.k) ≡ numbers 0 l.count
