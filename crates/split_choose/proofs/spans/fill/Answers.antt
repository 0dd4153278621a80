use Rattle.split_choose.proofs.Using.{filled-up}
use Rattle.split_choose.proofs.spans.fill.Goals as goal

pub returns : goal.returns
returns c finds ss sites same up = filled-up c.args.live.now c.args.v ss c.args.spans.now c.add_lanes.new.spans c.add_touched.new.spans up c.in_ok-add_lanes.ensures (c.add_touched.ensures finds ss sites same)
