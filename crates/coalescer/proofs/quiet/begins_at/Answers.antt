use Rattle.std.proofs.Common.{◌∙◌}
use Rattle.live_lanes.specs.Table.{seen_cell}
use Rattle.live_lanes.proofs.Held.{begins-back}
use Rattle.coalescer.proofs.quiet.begins_at.Goals as goal

pub returns : goal.returns
returns c = c.exits_at.ensures ∙ begins-back c.args.slots.now c.args.at (seen_cell c.args.there.now).segments c.args.index c.if-index-eq0.false
