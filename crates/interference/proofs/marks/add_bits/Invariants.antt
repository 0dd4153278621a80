use Rattle.std.proofs.Common.{◌≡◌, ◌++◌}
use Rattle.std.specs.Prelude.{filter}
use Rattle.mir_meaning.specs.Registers.{numbers}
use Rattle.interference.proofs.Marked.{bit_of}
use Rattle.interference.proofs.marks.add_bits.Given as goal

abbrev pub invariant-bits : goal.invariant-bits
invariant-bits l = l.made.items ≡ l.fn.made.items ++ filter (bit_of l.first l.word) (numbers l.first l.k)
