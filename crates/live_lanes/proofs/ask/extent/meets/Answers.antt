use Rattle.std.proofs.Common.{◌≡◌, Some, sym, ap, ◌∙◌}
use Rattle.std.specs.Prelude.{nat_le}
use Rattle.live_lanes.specs.Table.{seen_cell}
use Rattle.live_lanes.specs.Extents.{extent_in, begun_by}
use Rattle.live_lanes.proofs.Extents.{lasts, met-is}
use Rattle.live_lanes.proofs.ask.extent.meets.Goals as goal

pub returns-in-Some : goal.returns-in-Some
returns-in-Some c = λ r le.
    let slots = c.args.slots.now in
    let k : c.begun_by.result ≡ begun_by slots c.args.at.last (seen_cell c.args.cell.now).segments = c.begun_by.ensures r in
    let there : Some c.in-Some.extent ≡ extent_in (Some c.args.cell.now) (begun_by slots c.args.at.last (seen_cell c.args.cell.now).segments) = c.in-Some.ensures ∙ ap (extent_in (Some c.args.cell.now)) k in
    ap (nat_le c.args.at.first) c.last.ensures ∙ ap (lasts slots c.args.at.first) there ∙ sym (met-is slots c.args.cell.now c.args.at r le)

pub returns-in-None : goal.returns-in-None
returns-in-None c = λ r le.
    let slots = c.args.slots.now in
    let k : c.begun_by.result ≡ begun_by slots c.args.at.last (seen_cell c.args.cell.now).segments = c.begun_by.ensures r in
    ap (lasts slots c.args.at.first) (c.in-None.ensures ∙ ap (extent_in (Some c.args.cell.now)) k) ∙ sym (met-is slots c.args.cell.now c.args.at r le)
