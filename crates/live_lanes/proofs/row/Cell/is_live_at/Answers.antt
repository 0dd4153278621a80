use Rattle.std.proofs.Common.{ap, ◌∙◌}
use Rattle.live_lanes.specs.Table.{end_in, seen_cell}
use Rattle.live_lanes.specs.Reach.{reaches}
use Rattle.live_lanes.proofs.row.Cell.is_live_at.Goals as goal

pub returns : goal.returns
returns c = λ r. c.reaches.ensures ∙ ap (λ e. reaches c.args.slots.now e c.args.at) (c.end_of.ensures ∙ ap (end_in (seen_cell c.args.self.now)) (c.piece_at.ensures.piece r))
