use Rattle.std.proofs.Common.{◌≡◌, drop, ℕ}
use Rattle.std.specs.Prelude.{◌||◌}
use Rattle.mir_meaning.specs.Registers.{has_number}
use Rattle.mir_meaning.specs.Rules.{block_numbers}
use Rattle.machine_verify.specs.Sets.{has}
use Rattle.machine_verify.proofs.search.numbers_of.Given as goal

abbrev pub invariant-loop-b : goal.invariant-loop-b
invariant-loop-b l = (n : ℕ) → (has l.set n || has_number (block_numbers (drop l.b-index l.blocks)) n) ≡ has_number (block_numbers l.blocks) n
