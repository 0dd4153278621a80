use Rattle.std.proofs.Common.{◌≤◌, length, arith}
use Rattle.split_choose.proofs.Labels.{all-labelled}
use Rattle.split_choose.proofs.blocks.labels_of.Goals as goal

pub returns : goal.returns
returns c v view finds same =
    let h : length c.args.places.now ≤ c.places.place-index = omega arith in
    all-labelled c.args.live.now.target c.args.live.now.func c.args.live.now.table v view c.args.places.now c.places.place-index c.places.all finds same h c.places.invariant
