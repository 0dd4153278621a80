use Rattle.std.proofs.Common.{◌∙◌, ap}
use Rattle.live_lanes.specs.Table.{seen_cell}
use Rattle.live_lanes.specs.Held.{begins_at}
use Rattle.coalescer.proofs.quiet.is_written_at.Goals as goal

pub returns : goal.returns
returns c = λ rises. c.begins_at.ensures ∙ ap (begins_at c.args.slots.now c.args.at (seen_cell c.args.there.now).segments) (c.piece_at.ensures.piece rises)
