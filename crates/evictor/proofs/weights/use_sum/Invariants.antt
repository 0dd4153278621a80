use Rattle.std.proofs.Common.{◌≡◌, ℕ, ◌-◌, ◌^◌, map, min, take}
use Rattle.std.specs.List.{sum_by}
use Rattle.mir_func.specs.declared.func.Instr.{Instr}
use Rattle.live_lanes.specs.Touching.{FindsInstrs}
use Rattle.evictor.specs.Spots.{uses_at}
use Rattle.evictor.proofs.Spots.{spots}
use Rattle.evictor.proofs.weights.use_sum.Given as goal

abbrev pub invariant-touched : goal.invariant-touched
invariant-touched l =
    FindsInstrs l.fn.live.table l.fn.live.func.blocks
    → l.id-items ≡ map (λ (s : ℕ × Instr). s.1.id) (spots l.fn.v 0 l.fn.live.func.blocks)
    → l.sum ≡ min (sum_by (uses_at l.fn.freqs l.fn.v) (take l.id-index (spots l.fn.v 0 l.fn.live.func.blocks))) (2 ^ 128 - 1)
