use Rattle.std.proofs.Common.{◌≡◌, ℕ, length, None}
use Rattle.interference.specs.Clashes.{register_in}
use Rattle.interference.proofs.matrix.no_registers.Given as goal

abbrev pub invariant-each : goal.invariant-each
invariant-each l = record {
  count : length l.registers.items ≡ l.counter;
  none : (v : ℕ) → register_in l.registers.items v ≡ None;
}
