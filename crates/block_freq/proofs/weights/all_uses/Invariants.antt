use Rattle.std.proofs.Common.{◌≡◌, ◌≤◌, ◌+◌, ◌-◌, ◌^◌, min, drop}
use Rattle.block_freq.specs.Weights.{use_sum}
use Rattle.block_freq.proofs.weights.all_uses.Given as goal

abbrev pub invariant-layout : goal.invariant-layout
invariant-layout l = (min (l.sum + use_sum (drop l.k l.blocks) (drop l.k l.freqs) l.v) (2 ^ 128 - 1) ≡ min (use_sum l.blocks l.freqs l.v) (2 ^ 128 - 1)) × (l.sum ≤ 2 ^ 128 - 1)
