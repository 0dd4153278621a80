use Rattle.std.proofs.Common.{◌≡◌, ◌+◌, ◌-◌, ◌*◌, ◌^◌, min, take}
use Rattle.std.specs.List.{sum_by}
use Rattle.block_freq.specs.Weights.{naming}
use Rattle.block_freq.proofs.weights.add_uses.Given as goal

abbrev pub invariant-instrs : goal.invariant-instrs
invariant-instrs l = l.sum ≡ min (l.before + sum_by (λ i. l.freq * naming l.v i) (take l.i-index l.instrs)) (2 ^ 128 - 1)
