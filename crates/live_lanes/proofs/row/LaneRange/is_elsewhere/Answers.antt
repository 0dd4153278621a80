use Rattle.std.proofs.Common.{◌∙◌, sym}
use Rattle.live_lanes.proofs.Spread.{elsewhere-points, points-elsewhere}
use Rattle.live_lanes.proofs.row.LaneRange.is_elsewhere.Goals as goal

pub returns : goal.returns
returns c =
    let cells = c.args.self.now.cells.items in
    (λ t. elsewhere-points c.args.block cells c.args.self.now.sorted (sym c.has_other_cell.ensures ∙ t), λ (b, ne, h). c.has_other_cell.ensures ∙ points-elsewhere c.args.block cells b ne h)
