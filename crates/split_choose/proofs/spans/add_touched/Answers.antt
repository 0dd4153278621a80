use Rattle.std.proofs.Common.{refl, length, ◌<◌, ◌≤◌, arith}
use Rattle.split_choose.proofs.Using.{one-used, all-used}
use Rattle.split_choose.proofs.spans.add_touched.Goals as goal

pub touched-preserved : goal.touched-preserved
touched-preserved c finds ss sites same up =
    let h : c.touched.id-index < length c.args.touched.now = omega arith in
    one-used c.args.live.now.target c.args.v c.args.live.now.func.blocks ss c.args.touched.now c.touched.id-index _ c.args.spans.now c.touched.spans c.add_uses.new.spans sites same h refl up (c.touched.invariant finds ss sites same up) (c.add_uses.ensures finds)

pub returns : goal.returns
returns c finds ss sites same up =
    let h : length c.args.touched.now ≤ c.touched.id-index = omega arith in
    all-used c.args.live.now.target c.args.v ss c.args.touched.now c.touched.id-index c.args.spans.now c.touched.spans same h (c.touched.invariant finds ss sites same up)
