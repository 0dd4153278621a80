use Rattle.std.proofs.Common.{arith, ◌<◌, ◌≤◌, length}
use Rattle.live_lanes.proofs.Pieces.{piece-none, piece-kept, piece-raised, keeps-blocks}
use Rattle.live_lanes.proofs.table.LaneRanges.raise_piece.Goals as goal

pub returns-then-at-len-clause-raised : goal.returns-then-at-len-clause-raised
returns-then-at-len-clause-raised c =
    let rows = c.args.self.now.rows in
    let past : length rows.items ≤ c.args.lane = omega (arith, rows.ok.0, c.len.ensures, c.if-at-len.true) in
    piece-none rows.items c.args.lane c.args.place c.args.index c.args.risen.now.items past

pub returns-in_ok-push-clause-raised : goal.returns-in_ok-push-clause-raised
returns-in_ok-push-clause-raised c =
    let rows = c.args.self.now.rows in
    let within : c.args.lane < length rows.items = omega (arith, rows.ok.0, c.len.ensures, c.if-at-len.false) in
    let r = c.in-Some.ensures.raised in
    piece-raised rows.items c.args.lane c.args.place c.args.index c.index_mut.result.now c.raise_certain.new.self within c.index_mut.ensures.value c.in-Some.block c.args.risen.now.items c.push.new.self.items r.0 r.1 c.in_ok-push.ensures.items

pub returns-in_ok-push-clause-blocks : goal.returns-in_ok-push-clause-blocks
returns-in_ok-push-clause-blocks c =
    let rows = c.args.self.now.rows in
    let within : c.args.lane < length rows.items = omega (arith, rows.ok.0, c.len.ensures, c.if-at-len.false) in
    keeps-blocks rows.items c.args.lane c.args.place c.args.index c.index_mut.result.now c.raise_certain.new.self within c.index_mut.ensures.value c.raise_certain.ensures.blocks

pub returns-in_default-clause-raised : goal.returns-in_default-clause-raised
returns-in_default-clause-raised c =
    let rows = c.args.self.now.rows in
    let within : c.args.lane < length rows.items = omega (arith, rows.ok.0, c.len.ensures, c.if-at-len.false) in
    piece-kept rows.items c.args.lane c.args.place c.args.index c.index_mut.result.now c.raise_certain.new.self within c.index_mut.ensures.value c.args.risen.now.items c.in_default.ensures.raised

pub returns-in_default-clause-blocks : goal.returns-in_default-clause-blocks
returns-in_default-clause-blocks c =
    let rows = c.args.self.now.rows in
    let within : c.args.lane < length rows.items = omega (arith, rows.ok.0, c.len.ensures, c.if-at-len.false) in
    keeps-blocks rows.items c.args.lane c.args.place c.args.index c.index_mut.result.now c.raise_certain.new.self within c.index_mut.ensures.value c.raise_certain.ensures.blocks
