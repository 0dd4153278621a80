use Rattle.std.proofs.Common.{◌≡◌, ◌<◌, ◌∙◌, ℕ, List, length, sym, subst}
use Rattle.mir_func.specs.declared.func.Block.{Block}
use Rattle.live_lanes.specs.Held.{block_held, sum_below, range_held}
use Rattle.live_lanes.proofs.Alike.{held-sums}
use Rattle.live_lanes.proofs.Summed.{range-same}
use Rattle.live_lanes.proofs.table.Table.points.Goals as goal

pub returns : goal.returns
returns c = λ o r few.
    let x = c.args.self.now in
    let bs : List Block = c.args.blocks.now in
    let all : range_held x bs c.args.v ≡ sum_below (block_held x bs c.of_range-own.result.first c.of_range-own.result.count) (length bs) = range-same x bs c.args.v c.of_range-own.result.first c.of_range-own.result.count c.of_range-own.ensures in
    let same : sum_below (block_held x bs c.counted_lanes.result.first c.counted_lanes.result.count) (length bs) ≡ range_held x bs c.args.v = held-sums x bs c.counted_lanes.result.first c.counted_lanes.result.count c.of_range-own.result.first c.of_range-own.result.count c.counted_lanes.ensures ∙ sym all in
    c.points_of.ensures o r (subst (λ n. n < 18446744073709551616) (sym same) few) ∙ same
