use Rattle.std.proofs.Common.{◌≡◌, Some, ap, sym, subst, ◌∙◌}
use Rattle.std.specs.Prelude.{IsTrue, find}
use Rattle.live_lanes.specs.Entered.{rows_seen}
use Rattle.live_lanes.specs.Extents.{begins_with}
use Rattle.live_lanes.specs.Table.{Seen, rises_from, seen_cell}
use Rattle.live_lanes.proofs.ExtentLists.{extents-rows, extents-seen, seen_extents}
use Rattle.live_lanes.proofs.live.LiveFunc.extent_from.Goals as goal

pub returns : goal.returns
returns c = λ o.
    let x = c.args.self.now.table in
    let cell = c.in_ok-cell.cell.now in
    let s : seen_cell cell ≡ rows_seen x.rows.rows.items c.args.lane c.args.block = c.in_ok-cell.ensures in
    let up : IsTrue (rises_from x.order.slots 0 (seen_cell cell).segments) = subst (λ (w : Seen). IsTrue (rises_from x.order.slots 0 w.segments)) (sym s) (o c.args.lane c.args.block) in
    c.extent_from.ensures up
    ∙ ap (find (begins_with c.args.start)) (extents-seen (Some cell) ∙ (ap seen_extents s ∙ sym (extents-rows x c.args.lane c.args.block)))
