use Rattle.std.proofs.Common.{arith, ◌<◌, ◌≤◌, length}
use Rattle.live_lanes.specs.Table.{with_segment}
use Rattle.live_lanes.proofs.Raised.{on-ok}
use Rattle.live_lanes.proofs.Entering.{spot-past, spot-row}
use Rattle.live_lanes.proofs.table.LaneRanges.add_segment.Goals as goal

pub returns-then-at-len : goal.returns-then-at-len
returns-then-at-len c =
    let rows = c.args.self.now.rows in
    let past : length rows.items ≤ c.args.w.now.lane = omega (arith, rows.ok.0, c.len.ensures, c.if-at-len.true) in
    spot-past rows.items c.args.w.now.lane c.args.block (with_segment c.args.id c.args.w.now.early c.args.w.now.from) past

pub returns : goal.returns
returns c =
    let rows = c.args.self.now.rows in
    let within : c.args.w.now.lane < length rows.items = omega (arith, rows.ok.0, c.len.ensures, c.if-at-len.false) in
    on-ok c.add_segment.result c.add_segment.ensures (λ r. spot-row rows.items c.args.w.now.lane c.args.block (with_segment c.args.id c.args.w.now.early c.args.w.now.from) c.index_mut.result.now c.add_segment.new.self within c.index_mut.ensures.value r)
