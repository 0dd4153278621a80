use Rattle.std.proofs.Common.{◌<◌, ◌≤◌, length, arith}
use Rattle.live_lanes.specs.Table.{with_cause, with_end}
use Rattle.live_edits.proofs.ChangedRows.{cell-changes, no-lane}
use Rattle.live_edits.proofs.change.give_life.Goals as goal

pub returns-then-lane-len : goal.returns-then-lane-len
returns-then-lane-len c has =
    let rows = c.args.rows.now.rows in
    let spot = c.args.spot in
    let within : spot.lane < length rows.items = omega (arith, rows.ok.0, c.len.ensures, c.if-lane-len.true) in
    cell-changes rows.items spot.lane c.index_mut.result.now within c.index_mut.ensures.value c.give_row_life.new.row spot.block (λ v. with_end (with_cause v spot.index c.args.cause) spot.index c.args.end) c.give_row_life.ensures has

pub returns-else-lane-len : goal.returns-else-lane-len
returns-else-lane-len c has =
    let rows = c.args.rows.now.rows in
    let past : length rows.items ≤ c.args.spot.lane = omega (arith, rows.ok.0, c.len.ensures, c.if-lane-len.false) in
    absurd (no-lane rows.items c.args.spot.lane c.args.spot.block past has)
