use Rattle.live_lanes.specs.Held.{range_held}
use Rattle.block_freq.specs.Weights.{use_sum}
use Rattle.evictor.proofs.Uses.{weighed}
use Rattle.evictor.proofs.weights.weight_for.Goals as goal

pub returns : goal.returns
returns c = λ freqs order tells known few small.
    let a = c.args in
    let f = a.live.now.func in
    weighed (use_sum f.blocks freqs a.v) a.uses c.saturating_mul.result c.points-points.result (range_held a.live.now.table f.blocks a.v) small known c.saturating_mul.ensures (c.points-points.ensures order tells.finds.ranked few)
