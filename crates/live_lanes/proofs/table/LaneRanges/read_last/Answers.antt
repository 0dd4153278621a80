use Rattle.std.proofs.Common.{arith, ◌<◌, ◌≤◌, length}
use Rattle.live_lanes.specs.Table.{read_at_end}
use Rattle.live_lanes.proofs.Raised.{on-ok}
use Rattle.live_lanes.proofs.Entering.{spot-past, spot-row}
use Rattle.live_lanes.proofs.table.LaneRanges.read_last.Goals as goal

pub returns-then-at-len : goal.returns-then-at-len
returns-then-at-len c =
    let rows = c.args.self.now.rows in
    let past : length rows.items ≤ c.args.lane = omega (arith, rows.ok.0, c.len.ensures, c.if-at-len.true) in
    spot-past rows.items c.args.lane c.args.block (read_at_end) past

pub returns : goal.returns
returns c =
    let rows = c.args.self.now.rows in
    let within : c.args.lane < length rows.items = omega (arith, rows.ok.0, c.len.ensures, c.if-at-len.false) in
    on-ok c.read_last.result c.read_last.ensures (λ r. spot-row rows.items c.args.lane c.args.block (read_at_end) c.index_mut.result.now c.read_last.new.self within c.index_mut.ensures.value r)
