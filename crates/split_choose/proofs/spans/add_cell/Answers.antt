use Rattle.std.proofs.Common.{◌∙◌, slice_get, map}
use Rattle.live_lanes.specs.Entered.{cells_of}
use Rattle.split_choose.specs.Built.{told, stretched, cell_stretches}
use Rattle.split_choose.proofs.Finding.{none-changed, one-changed}
use Rattle.split_choose.proofs.Building.{stretched-if}
use Rattle.split_choose.proofs.spans.add_cell.Goals as goal

pub returns-in_ok-stretch_span : goal.returns-in_ok-stretch_span
returns-in_ok-stretch_span c up =
    let ss = cell_stretches c.args.live.now.table.order.slots (slice_get (cells_of c.args.live.now.table.rows.rows.items c.args.lane) c.args.place) in
    one-changed (stretched ss) c.args.position c.args.spans.now c.in-Some.at c.index-spans-at.result c.stretch_span.new.span up (c.in-Some.ensures.place up) c.index-spans-at.is c.in_ok-stretch_span.ensures
    ∙ stretched-if c.args.position ss (map told c.args.spans.now)

pub returns-in_default : goal.returns-in_default
returns-in_default c up =
    let ss = cell_stretches c.args.live.now.table.order.slots (slice_get (cells_of c.args.live.now.table.rows.rows.items c.args.lane) c.args.place) in
    none-changed (stretched ss) c.args.position c.args.spans.now (c.in_default.ensures.place up)
    ∙ stretched-if c.args.position ss (map told c.args.spans.now)
