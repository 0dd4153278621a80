use Rattle.std.proofs.Common.{◌≡◌, ℕ, drop}
use Rattle.std.specs.Prelude.{◌||◌}
use Rattle.mir_meaning.specs.Registers.{has_number}
use Rattle.machine_verify.specs.Sets.{has}
use Rattle.machine_verify.proofs.numbers.set_of.Given as goal

abbrev pub invariant-loop-n : goal.invariant-loop-n
invariant-loop-n l = (q : ℕ) → (has l.set q || has_number (drop l.n-index l.ns) q) ≡ has_number l.ns q
