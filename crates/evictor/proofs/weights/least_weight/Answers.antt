use Rattle.std.proofs.Common.{◌≡◌, ◌∙◌, ◌-◌, ◌^◌, List, ap, min}
use Rattle.mir_func.specs.Value.{Function}
use Rattle.mir_func.specs.declared.func.Block.{Block}
use Rattle.live_lanes.specs.Held.{range_held}
use Rattle.block_freq.specs.Weights.{use_sum}
use Rattle.evictor.specs.Spots.{points_in}
use Rattle.evictor.proofs.Points.{range_most, weighs_least}
use Rattle.evictor.proofs.weights.least_weight.Goals as goal

pub returns : goal.returns
returns c = λ v freqs known few small.
    let a = c.args in
    let f = a.live.now.func in
    let blocks : c.as_slice.result.now ≡ f.blocks = c.as_slice.ensures ∙ ap (λ (g : Function). g.blocks) (c.behind-live.view_is ∙ c.func.ensures) in
    let most = c.all_points-most.ensures ∙ ap (λ (bs : List Block). min (points_in bs) (2 ^ 64 - 1)) blocks in
    weighs_least (use_sum f.blocks freqs v) a.uses c.saturating_mul.result c.all_points-most.result (range_held a.live.now.table f.blocks v) (points_in f.blocks) small known c.saturating_mul.ensures few (range_most a.live.now.table f.blocks v) most
