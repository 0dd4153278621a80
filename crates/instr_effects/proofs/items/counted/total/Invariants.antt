use Rattle.std.proofs.Common.{◌≡◌, ◌+◌, ◌≤◌, drop}
use Rattle.std.specs.Prelude.{sum}
use Rattle.instr_effects.proofs.items.counted.total.Given as goal

abbrev pub invariant-loop-w : goal.invariant-loop-w
invariant-loop-w l = (l.total + sum (drop l.w-index l.widths) ≡ sum l.widths) × (l.total ≤ 128)
