use Rattle.std.proofs.Common.{sym, ap, ◌∙◌}
use Rattle.live_lanes.specs.Extents.{is_met_in}
use Rattle.live_lanes.proofs.Extents.{unseen-none}
use Rattle.live_lanes.proofs.live.LiveFunc.meets.Goals as goal

pub returns-in-None : goal.returns-in-None
returns-in-None c = λ r le.
    let slots = c.args.self.now.table.order.slots in
    sym (unseen-none slots c.args.at) ∙ ap (λ w. is_met_in slots w c.args.at) c.in-None.ensures
