use Rattle.std.proofs.Common.{◌≡◌, ◌<◌, ℕ, false}
use Rattle.place_solve.specs.Own.{is_crowded}
use Rattle.place_solve.proofs.check.crowded_instr.Given as goal

abbrev pub invariant-each : goal.invariant-each
invariant-each l = (i : ℕ) → i < l.j → is_crowded l.target l.f l.instrs i ≡ false
