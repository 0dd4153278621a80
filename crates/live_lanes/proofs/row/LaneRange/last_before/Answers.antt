use Rattle.std.proofs.Common.{◌≤◌, ◌<◌, length, arith}
use Rattle.live_lanes.proofs.Behind.{last-here, last-none}
use Rattle.live_lanes.proofs.row.LaneRange.last_before.Goals as goal

pub returns-then-at-len : goal.returns-then-at-len
returns-then-at-len c =
    let rows = c.args.self.now.cells in
    let past : length rows.items ≤ c.place_before-at.result = omega (arith, rows.ok.0, c.len.ensures, c.if-at-len.true) in
    last-none c.args.bound rows.items c.place_before-at.result c.args.self.now.sorted c.place_before-at.ensures past

pub returns : goal.returns
returns c =
    let rows = c.args.self.now.cells in
    let within : c.place_before-at.result < length rows.items = omega (arith, rows.ok.0, c.len.ensures, c.if-at-len.false) in
    last-here c.args.bound rows.items c.place_before-at.result c.index.result.now c.args.self.now.sorted c.place_before-at.ensures within c.index.ensures
