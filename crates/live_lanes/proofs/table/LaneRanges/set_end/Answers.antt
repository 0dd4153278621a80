use Rattle.std.proofs.Common.{arith, refl, ◌<◌, ◌≤◌, length}
use Rattle.live_lanes.proofs.Gives.{sets-row, sets-none}
use Rattle.live_lanes.proofs.Marks.{keeps-none, keeps-row}
use Rattle.live_lanes.proofs.Pieces.{keeps-blocks}
use Rattle.live_lanes.proofs.table.LaneRanges.set_end.Goals as goal

pub returns-then-at-len : goal.returns-then-at-len
returns-then-at-len c =
    let rows = c.args.self.now.rows in
    let within : c.args.lane < length rows.items = omega (arith, rows.ok.0, c.len.ensures, c.if-at-len.true) in
    record {
      keeps = keeps-row rows.items c.args.lane c.index_mut.result.now c.set_end.new.self c.args.place c.args.index c.args.end within c.index_mut.ensures.value c.set_end.ensures.set;
      blocks = keeps-blocks rows.items c.args.lane c.args.place c.args.index c.index_mut.result.now c.set_end.new.self within c.index_mut.ensures.value c.set_end.ensures.blocks;
      set = sets-row rows.items c.args.lane c.index_mut.result.now c.set_end.new.self c.args.place c.args.index c.args.end within c.index_mut.ensures.value c.set_end.ensures.set;
    }

pub returns-else-at-len : goal.returns-else-at-len
returns-else-at-len c =
    let rows = c.args.self.now.rows in
    let past : length rows.items ≤ c.args.lane = omega (arith, rows.ok.0, c.len.ensures, c.if-at-len.false) in
    record {
      keeps = keeps-none rows.items;
      blocks = λ l. refl;
      set = sets-none rows.items c.args.lane c.args.place c.args.index c.args.end past;
    }
