use Rattle.std.proofs.Common.{arith, ◌∙◌, ◌<◌, ◌≤◌, length}
use Rattle.live_lanes.proofs.Segments.{moved-here, moved-past}
use Rattle.live_lanes.proofs.row.Cell.move_source.Goals as goal

pub returns-then-index-len : goal.returns-then-index-len
returns-then-index-len c =
    let past : length c.args.self.now.segments.items < c.args.index = omega (arith, c.args.self.now.segments.ok.0, c.len.ensures, c.if-index-len.true) in
    moved-past c.args.self.now c.args.index c.if-index-eq0.false past

pub returns : goal.returns
returns c =
    let within : c.args.index ≤ length c.args.self.now.segments.items = omega (arith, c.args.self.now.segments.ok.0, c.len.ensures, c.if-index-len.false) in
    c.move_source.ensures ∙ moved-here c.args.self.now c.args.index c.index.result.now c.if-index-eq0.false within c.index.ensures
