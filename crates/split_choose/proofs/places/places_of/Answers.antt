use Rattle.split_choose.proofs.Sited.{one-more, all-places}
use Rattle.std.proofs.Common.{refl, length, ◌<◌, ◌≤◌, arith}
use Rattle.split_choose.proofs.places.places_of.Goals as goal

pub touched-preserved : goal.touched-preserved
touched-preserved c finds ss sites same =
    let h : c.touched.id-index < length c.args.touched.now = omega arith in
    one-more c.args.live.now.target c.args.live.now.func.blocks ss c.args.touched.now c.touched.id-index _ _ _ sites same h refl (c.touched.invariant finds ss sites same) (c.in_ok-add_place.ensures finds)

pub returns : goal.returns
returns c v view finds same =
    let h : length c.args.touched.now ≤ c.touched.id-index = omega arith in
    all-places c.args.live.now.target c.args.live.now.func c.args.live.now.table v view c.args.touched.now c.touched.id-index c.touched.places.items finds same h (c.touched.invariant finds.instrs)
