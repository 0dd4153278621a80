use Rattle.std.proofs.Common.{◌≡◌, ◌++◌, ◌≤◌, drop}
use Rattle.mir_meaning.specs.Items.{constant_bits}
use Rattle.instr_effects.proofs.items.silent.constant_bits.Given as goal

abbrev pub invariant-loop-w : goal.invariant-loop-w
invariant-loop-w l = (l.made ++ constant_bits l.c l.low (drop l.w-index l.widths) ≡ constant_bits l.c 0 l.widths) × (l.low ≤ 128)
