use Rattle.std.proofs.Common.{◌≡◌, ◌<◌, ◌≤◌, length, arith, take, get_or, refl, sym, ap, ◌∙◌}
use Rattle.live_lanes.proofs.Exits.{lane-in, end-raised, exits-none, exits-more, exits-all, table-kept}
use Rattle.live_lanes.specs.Graph.{is_live}
use Rattle.live_lanes.proofs.Growth.{piece-law}
use Rattle.live_lanes.proofs.table.LaneRanges.raise_exits.Goals as goal

pub terminators-init : goal.terminators-init
terminators-init c = λ code flow t live edge ids.
    let old = c.args.self.now.rows.items in
    let raised = c.in_ok-raise.ensures (lane-in old c.args.lane c.args.edge.to 0 live) (piece-law code c.args.order.now.slots flow old t c.args.lane c.args.edge.from) in
    exits-none code c.args.order.now.slots flow old _ c.args.lane c.args.edge.from c.args.edge.to c.args.risen.now.items _ t live edge raised

pub terminators-preserved : goal.terminators-preserved
terminators-preserved c = λ code flow t live edge ids.
    let old = c.args.self.now.rows.items in
    let mid = c.terminators.self.rows.items in
    let so = c.terminators.invariant code flow t live edge ids in
    let t' = table-kept code c.args.order.now.slots flow old mid c.args.risen.now.items c.terminators.risen.items t so.grew in
    let live' = ap is_live (so.grew.kept c.args.lane c.args.edge.to 0 live) ∙ live in
    let raised = c.in_ok-raise-2.ensures (lane-in mid c.args.lane c.args.edge.to 0 live') (piece-law code c.args.order.now.slots flow mid t' c.args.lane c.args.edge.from) in
    exits-more code c.args.order.now.slots flow old mid _ c.args.lane c.args.edge.from c.args.edge.to c.args.terminators.now c.terminators.id-index (get_or c.args.terminators.now c.terminators.id-index 0) c.args.risen.now.items c.terminators.risen.items _ t live edge ids (omega arith) refl so raised

pub returns : goal.returns
returns c = λ code flow t live edge ids.
    exits-all code c.args.order.now.slots flow c.args.self.now.rows.items c.terminators.self.rows.items c.args.lane c.args.edge.from c.args.terminators.now c.terminators.id-index c.args.risen.now.items c.terminators.risen.items t ids (omega arith) (c.terminators.invariant code flow t live edge ids)
